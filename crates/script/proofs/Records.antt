-- The records of a script, the first taken off.
use Rattle.std.proofs.Common.{◌≡◌, ℕ, ◌+◌, ◌-◌, ◌<◌, ◌≤◌, List, [], ◌∷◌, length, take, drop, Some, Option, unwrap_or, ap, ◌∙◌, ⊎_elim, arith, length-drop, length-take}
use Rattle.std.specs.List.{prefix_len}
use Rattle.std.proofs.lemmas.List.{drop_all}
use Rattle.std.proofs.lemmas.List.Sums.{prefix_len-le-length}
use Rattle.std.proofs.lemmas.Bool.{cases_lt}
use Rattle.text.specs.Words.{differs}
use Rattle.script.specs.Lines.{lines_of, next_line, records_from}
use Rattle.script.specs.declared.line.Line.{Line}
use Rattle.script.proofs.Cutting.{cuts_by}

-- the two parts of a cut
line_is : (rest line after : List ℕ) → Some (line, after) ≡ next_line rest → line ≡ take (prefix_len (differs 10) rest) rest
line_is [] line after e = absurd (let z : ◌≡◌ {A = ℕ} 0 1 = cc in omega arith)
line_is (b ∷ bs) line after e = ap (λ (o : Option (List ℕ × List ℕ)). (unwrap_or o ([], [])).0) e

after_is : (rest line after : List ℕ) → Some (line, after) ≡ next_line rest → after ≡ drop 1 (drop (prefix_len (differs 10) rest) rest)
after_is [] line after e = absurd (let z : ◌≡◌ {A = ℕ} 0 1 = cc in omega arith)
after_is (b ∷ bs) line after e = ap (λ (o : Option (List ℕ × List ℕ)). (unwrap_or o ([], [])).1) e

module _ (rest line after : List ℕ) (cut : Some (line, after) ≡ next_line rest) where
  pub lines_more : lines_of rest ≡ line ∷ lines_of after
  lines_more = (cuts_by rest _ cut).2

  -- the offset of the line that follows, where one follows
  offset_more : (total : ℕ) → length rest ≤ total → records_from (total - length rest + length line + 1) (lines_of after) ≡ records_from (total - length after) (lines_of after)
  offset_more total h =
      let n : ℕ = prefix_len (differs 10) rest in
      let top : n ≤ length rest = prefix_len-le-length (differs 10) rest in
      let l : length line ≡ n = ap length (line_is rest line after cut) ∙ rw length-take (omega arith) in
      let a : length after ≡ length rest - n - 1 = ap length (after_is rest line after cut) ∙ rw (length-drop, length-drop) in
      ⊎_elim
      (λ (k : n < length rest).
      let e : total - length rest + length line + 1 ≡ total - length after = omega arith in
      ap (λ (at : ℕ). records_from at (lines_of after)) e)
      (λ (k : length rest ≤ n).
      let z : after ≡ [] = after_is rest line after cut ∙ ap (drop 1) (drop_all n rest k) in
      rw z)
      (cases_lt n (length rest))

  pub records_more : (total : ℕ) → length rest ≤ total → records_from (total - length rest) (lines_of rest) ≡ record { offset = total - length rest; length = length line } ∷ records_from (total - length after) (lines_of after)
  records_more total h =
      ap (records_from (total - length rest)) lines_more
      ∙ ap (λ (rs : List Line). record { offset = total - length rest; length = length line } ∷ rs) (offset_more total h)
