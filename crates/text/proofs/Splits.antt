-- The cursor cuts a line as its words are defined.
use Rattle.std.proofs.Common.{◌≡◌, ℕ, ◌+◌, ◌-◌, ◌≤◌, true, false, List, [], ◌∷◌, ◌++◌, length, take, drop, Option, sym, refl, ap, ◌∙◌, subst, ⊎_elim, append_assoc, append-nil, one-add, arith, length-drop, length-take}
use Rattle.std.specs.List.{prefix_len}
use Rattle.std.proofs.lemmas.Bool.{cases_Bool}
use Rattle.std.proofs.lemmas.List.Sums.{prefix_len-le-length}
use Rattle.text.specs.Words.{blank, solid, words_after, words_of, after_blanks, cut_word, next_word, Splits}

-- blanks in front change nothing
skip : (xs : List ℕ) → words_of xs ≡ words_of (after_blanks xs)
skip [] = refl
skip (b ∷ bs) =
    ⊎_elim (λ (e : blank b ≡ true). rw (e, one-add) (skip bs)) (λ (e : blank b ≡ false). simp e) (cases_Bool (blank b))

-- a word that has begun goes on to the next blank
goes : (c : ℕ) (w xs : List ℕ) → words_after (c ∷ w) xs ≡ ((c ∷ w) ++ take (prefix_len solid xs) xs) ∷ words_of (drop (prefix_len solid xs) xs)
goes c w [] = rw append-nil
goes c w (b ∷ bs) =
    ⊎_elim
    (λ (e : blank b ≡ true). simp e (ap (λ (ys : List ℕ). (c ∷ ys) ∷ words_of bs) (sym (append-nil w))))
    (λ (e : blank b ≡ false). rw (e, one-add) (goes c (w ++ b ∷ []) bs ∙ simp append_assoc))
    (cases_Bool (blank b))

-- a line without blanks in front is empty, or starts with a word
starts : (xs : List ℕ) → (b : ℕ) (bs : List ℕ) → after_blanks xs ≡ b ∷ bs → blank b ≡ false
starts [] b bs h = absurd (let z : ◌≡◌ {A = ℕ} 0 1 = cc in omega arith)
starts (x ∷ xs) b bs h =
    ⊎_elim
    (λ (e : blank x ≡ true). starts xs b bs (rw (e, one-add) at h))
    (λ (e : blank x ≡ false). let k : x ∷ xs ≡ b ∷ bs = (simp e at h) in let q : x ≡ b = cc in subst (λ (y : ℕ). blank y ≡ false) q e)
    (cases_Bool (blank x))

shorter : (xs : List ℕ) → length (after_blanks xs) ≤ length xs
shorter xs = rw length-drop (omega arith)

cut : (line xs : List ℕ) → after_blanks line ≡ xs → Splits line (cut_word xs)
cut line [] e = skip line ∙ ap words_of e
cut line (b ∷ bs) e =
    let q : blank b ≡ false = starts line b bs e in
    let s : prefix_len solid (b ∷ bs) ≡ 1 + prefix_len solid bs = rw q in
    let top = prefix_len-le-length solid bs in
    let len : length (b ∷ bs) ≤ length line = subst (λ (ys : List ℕ). length ys ≤ length line) e (shorter line) in
    let w : length (take (prefix_len solid (b ∷ bs)) (b ∷ bs)) ≡ prefix_len solid (b ∷ bs) = rw length-take (omega arith) in
    let r : length (drop (prefix_len solid (b ∷ bs)) (b ∷ bs)) ≡ length (b ∷ bs) - prefix_len solid (b ∷ bs) = rw length-drop in
    (omega arith, omega arith, skip line ∙ ap words_of e ∙ rw (q, one-add) (goes b [] bs))

pub splits_of : (line : List ℕ) → Splits line (next_word line)
splits_of line = cut line (after_blanks line) refl

-- an answer that is the definition's splits the line
pub splits_by : (line : List ℕ) (p : Option (List ℕ × List ℕ)) → p ≡ next_word line → Splits line p
splits_by line p e = subst (Splits line) (sym e) (splits_of line)
