-- The cursor cuts a script as its lines are defined.
use Rattle.std.proofs.Common.{◌≡◌, ℕ, ◌-◌, ◌≤◌, true, false, eqb, List, [], ◌∷◌, ◌++◌, length, take, drop, Some, None, Option, sym, refl, ap, ◌∙◌, subst, ⊎_elim, append_assoc, append-nil, one-add, arith, length-drop, length-take}
use Rattle.std.specs.List.{prefix_len}
use Rattle.std.proofs.lemmas.List.{nil_from_length, take_rest}
use Rattle.std.proofs.lemmas.List.Sums.{prefix_len-le-length}
use Rattle.std.proofs.lemmas.Bool.{cases_Bool}
use Rattle.text.specs.Words.{differs}
use Rattle.script.specs.Lines.{lines_after, lines_of, next_line, Cuts}

-- a line that has begun goes on to the next byte 10
goes : (c : ℕ) (l xs : List ℕ) → lines_after (c ∷ l) xs ≡ ((c ∷ l) ++ take (prefix_len (differs 10) xs) xs) ∷ lines_of (drop 1 (drop (prefix_len (differs 10) xs) xs))
goes c l [] = rw append-nil
goes c l (b ∷ bs) =
    ⊎_elim
    (λ (e : eqb b 10 ≡ true). simp e (ap (λ (ys : List ℕ). (c ∷ ys) ∷ lines_of bs) (sym (append-nil l))))
    (λ (e : eqb b 10 ≡ false). rw (e, one-add) (goes c (l ++ b ∷ []) bs ∙ simp append_assoc))
    (cases_Bool (eqb b 10))

first : (b : ℕ) (bs : List ℕ) → lines_of (b ∷ bs) ≡ take (prefix_len (differs 10) (b ∷ bs)) (b ∷ bs) ∷ lines_of (drop 1 (drop (prefix_len (differs 10) (b ∷ bs)) (b ∷ bs)))
first b bs =
    ⊎_elim
    (λ (e : eqb b 10 ≡ true). simp e)
    (λ (e : eqb b 10 ≡ false). rw (e, one-add) (goes b [] bs))
    (cases_Bool (eqb b 10))

cuts_of : (bytes : List ℕ) → Cuts bytes (next_line bytes)
cuts_of [] = refl
cuts_of (b ∷ bs) =
    let xs : List ℕ = b ∷ bs in
    let n : ℕ = prefix_len (differs 10) xs in
    let top : n ≤ length xs = prefix_len-le-length (differs 10) xs in
    let l : length (take n xs) ≡ n = rw length-take (omega arith) in
    let r : length (drop 1 (drop n xs)) ≡ length xs - n - 1 = rw (length-drop, length-drop) in
    (omega arith, omega arith, first b bs)

-- an answer that is the definition's cuts the bytes
pub cuts_by : (bytes : List ℕ) (p : Option (List ℕ × List ℕ)) → p ≡ next_line bytes → Cuts bytes p
cuts_by bytes p e = subst (Cuts bytes) (sym e) (cuts_of bytes)

pub no_line : (bytes : List ℕ) → length bytes ≡ 0 → None ≡ next_line bytes
no_line [] h = refl
no_line (b ∷ bs) h = absurd (omega arith)

-- what the code cuts off, as it comes to it
module _ (bytes line rest : List ℕ) (n : ℕ) (some : length bytes ≡ 0 → ⊥) (e : n ≡ prefix_len (differs 10) bytes) (f : line ≡ take n bytes) (g : rest ≡ drop n bytes) where
  is_cut : (xs : List ℕ) → (length xs ≡ 0 → ⊥) → Some (take (prefix_len (differs 10) xs) xs, drop 1 (drop (prefix_len (differs 10) xs) xs)) ≡ next_line xs
  is_cut [] h = absurd (h refl)
  is_cut (b ∷ bs) h = refl

  next : Some (line, drop 1 rest) ≡ next_line bytes
  next = rw (f, g, e) (is_cut bytes some)

  pub last_line : length rest ≡ 0 → Some (line, rest) ≡ next_line bytes
  last_line h =
      let z : rest ≡ [] = nil_from_length rest h in
      ap (λ (ys : List ℕ). Some (line, ys)) (z ∙ sym (ap (drop 1) z)) ∙ next

  pub next_line_lem : Some (line, take (length rest - 1) (drop 1 rest)) ≡ next_line bytes
  next_line_lem = ap (λ (ys : List ℕ). Some (line, ys)) (take_rest rest 1) ∙ next
