-- The records of a script point to its lines.
use Rattle.std.proofs.Common.{◌≡◌, ℕ, zero, suc, ◌+◌, ◌-◌, ◌<◌, ◌≤◌, true, false, eqb, List, [], ◌∷◌, ◌++◌, map, length, get_or, take, drop, Some, sym, refl, ap, ◌∙◌, ⊎_elim, append_assoc, arith, length-append}
use Rattle.std.specs.Option.{option_map}
use Rattle.std.specs.List.{slice_get}
use Rattle.std.proofs.lemmas.List.{take_at, drop_at}
use Rattle.std.proofs.lemmas.Option.{slice_get-map, slice_get_read}
use Rattle.std.proofs.lemmas.Bool.{cases_Bool}
use Rattle.text.specs.Search.{first_round}
use Rattle.text.proofs.Rounds.{first_round-map}
use Rattle.script.specs.Lines.{lines_after, lines_of, records_from, records_of, line_text, first_word_is}
use Rattle.script.specs.Scripts.{sound}
use Rattle.script.specs.Views.{line_numbered}
use Rattle.script.specs.declared.line.Line.{Line}
use Rattle.script.proofs.Soundness.{sound_records}

-- the part of a text between what stands before and after it
part : (before l after : List ℕ) (at : ℕ) → at ≡ length before → take (length l) (drop at (before ++ (l ++ after))) ≡ l
part before l after at e = ap (take (length l)) (drop_at before (l ++ after) at (sym e)) ∙ take_at l after (length l) refl

texts_after : (whole before l xs : List ℕ) (at : ℕ) → whole ≡ before ++ (l ++ xs) → at ≡ length before → map (line_text whole) (records_from at (lines_after l xs)) ≡ lines_after l xs
texts_after whole before [] [] at w e = refl
texts_after whole before (c ∷ l) [] at w e =
    ap (λ (t : List ℕ). t ∷ []) (ap (λ (ys : List ℕ). take (length (c ∷ l)) (drop at ys)) w ∙ part before (c ∷ l) [] at e)
texts_after whole before l (b ∷ bs) at w e =
    ⊎_elim
    (λ (t : eqb b 10 ≡ true).
    let v : whole ≡ (before ++ (l ++ b ∷ [])) ++ bs = w ∙ simp append_assoc in
    let f : at + length l + 1 ≡ length (before ++ (l ++ b ∷ [])) = simp length-append (omega arith) in
    rw t
    (ap (λ (x : List ℕ). x ∷ map (line_text whole) (records_from (at + length l + 1) (lines_of bs))) (ap (λ (ys : List ℕ). take (length l) (drop at ys)) w ∙ part before l (b ∷ bs) at e)
    ∙ ap (λ (ts : List (List ℕ)). l ∷ ts) (texts_after whole (before ++ (l ++ b ∷ [])) [] bs (at + length l + 1) v f)))
    (λ (t : eqb b 10 ≡ false).
    rw t (texts_after whole before (l ++ b ∷ []) bs at (w ∙ simp append_assoc) e))
    (cases_Bool (eqb b 10))

pub texts_of : (bytes : List ℕ) → map (line_text bytes) (records_of bytes) ≡ lines_of bytes
texts_of bytes = texts_after bytes [] [] bytes 0 refl refl

module _ (bytes : List ℕ) (records : List Line) (all : records ≡ records_of bytes) where
  pub label_found : (label : List ℕ) (from : ℕ) → first_round (λ (l : Line). first_word_is label (line_text bytes l)) from records ≡ first_round (first_word_is label) from (lines_of bytes)
  label_found label from =
      first_round-map (line_text bytes) (first_word_is label) from records ∙ ap (first_round (first_word_is label) from) (ap (map (line_text bytes)) all ∙ texts_of bytes)

  line_at : (i : ℕ) → slice_get (lines_of bytes) i ≡ option_map (line_text bytes) (slice_get records i)
  line_at i =
      ap (λ (ts : List (List ℕ)). slice_get ts i) (sym (ap (map (line_text bytes)) all ∙ texts_of bytes)) ∙ slice_get-map (line_text bytes) records i

  pub line_found : (number i : ℕ) (l : Line) → 1 ≤ number → number - 1 ≡ i → i < length records → l ≡ get_or records i l → Some (line_text bytes l) ≡ line_numbered (lines_of bytes) number
  line_found zero i l low e h g = absurd (omega arith)
  line_found (suc k) i l low e h g =
      let n : k ≡ i = omega arith in
      let s : slice_get records k ≡ Some l = slice_get_read records (length records) k l refl (omega arith) (g ∙ ap (λ (m : ℕ). get_or records m l) (sym n)) in
      sym (line_at k ∙ ap (option_map (line_text bytes)) s)

-- the text of the record at a place of a script is the line of its number
pub line_read : (bytes : List ℕ) (lines : List Line) → sound bytes lines ≡ true → (number i : ℕ) (l : Line) (t : List ℕ) → 1 ≤ number → i ≡ number - 1 → i < length lines → l ≡ get_or lines i l → t ≡ line_text bytes l → Some t ≡ line_numbered (lines_of bytes) number
line_read bytes lines h number i l t low e k g q =
    ap Some q ∙ line_found bytes lines (sound_records bytes lines h) number i l low (sym e) k g
