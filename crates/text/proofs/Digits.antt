-- How a loop over digits comes to the number that they write.
use Rattle.std.proofs.Common.{◌≡◌, ℕ, ◌+◌, ◌-◌, ◌*◌, ◌<◌, ◌≤◌, Bool, true, false, cond, List, [], ◌∷◌, length, eqb, get_or, drop, Some, None, sym, refl, ap, ◌∙◌, arith}
use Rattle.std.specs.Char.{is_ascii_digit}
use Rattle.std.proofs.lemmas.List.{at_drop_more, at_drop_all}
use Rattle.std.proofs.lemmas.Bool.{lt-leb, le-leb}
use Rattle.text.specs.Numbers.{digits_after, capped, magnitude_of}

-- a number that is too large stays so, whatever follows
pub over : (n : ℕ) (bs : List ℕ) → 2147483648 < n → capped (digits_after n bs) ≡ None
over n [] h = rw (lt-leb n 2147483648 h)
over n (b ∷ bs) h =
    elim (is_ascii_digit b) as (λ t. capped (cond t (digits_after (n * 10 + (b - 48)) bs) None) ≡ None)
    [ true ↦ over (n * 10 + (b - 48)) bs (omega arith) | false ↦ refl ]

module _ (bs : List ℕ) (i n : ℕ) where
  pub at_digit : i < length bs → true ≡ is_ascii_digit (get_or bs i 0) → capped (digits_after n (drop i bs)) ≡ capped (digits_after (n * 10 + (get_or bs i 0 - 48)) (drop (i + 1) bs))
  at_digit h e =
      at_drop_more (λ (ys : List ℕ). capped (digits_after n ys)) bs i 0 h
      ∙ ap (λ (t : Bool). capped (cond t (digits_after (n * 10 + (get_or bs i 0 - 48)) (drop (i + 1) bs)) None)) (sym e)

  pub at_other : i < length bs → false ≡ is_ascii_digit (get_or bs i 0) → capped (digits_after n (drop i bs)) ≡ None
  at_other h e =
      at_drop_more (λ (ys : List ℕ). capped (digits_after n ys)) bs i 0 h
      ∙ ap (λ (t : Bool). capped (cond t (digits_after (n * 10 + (get_or bs i 0 - 48)) (drop (i + 1) bs)) None)) (sym e)

  pub all_read : length bs ≤ i → n ≤ 2147483648 → capped (digits_after n (drop i bs)) ≡ Some n
  all_read h k = at_drop_all (λ (ys : List ℕ). capped (digits_after n ys)) bs i h ∙ rw (le-leb n 2147483648 k)

pub some_digits : (bs : List ℕ) → eqb (length bs) 0 ≡ false → capped (magnitude_of bs) ≡ capped (digits_after 0 bs)
some_digits bs h = rw h
