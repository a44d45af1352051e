-- A word padded with blanks, read place by place.
use Rattle.std.proofs.Common.{◌≡◌, ℕ, ◌-◌, ◌<◌, ◌≤◌, List, map, max, length, get_or, replicate, sym, refl, ◌∙◌, ⊎_elim, arith, length-append}
use lib.ListN.{length-replicate}
use Rattle.std.specs.Cmp.Lexicographic.{slice_cmp}
use Rattle.std.specs.List.{range_with_len}
use Rattle.std.specs.Ordering.{nat_cmp}
use Rattle.std.proofs.lemmas.Bool.{cases_lt}
use Rattle.std.proofs.lemmas.List.{same_lists, length-map, get_or_default, get_or_past, get_or_append_left, get_or-append_right, get_or-replicate}
use Rattle.std.proofs.lemmas.List.FromFn.{length-range_with_len, get_or-map-range_with_len}
use Rattle.text.specs.Order.{padded, padded_order}

padded_at : (w : List ℕ) (n i d : ℕ) → i < n → get_or (padded n w) i d ≡ get_or w i 32
padded_at w n i d h =
    ⊎_elim
    (λ (k : i < length w). get_or_append_left w (replicate (n - length w) 32) d i k ∙ get_or_default w i d 32 k)
    (λ (k : length w ≤ i).
    get_or-append_right w (replicate (n - length w) 32) (length w) i d refl k
    ∙ get_or-replicate (n - length w) (i - length w) 32 d (omega arith)
    ∙ sym (get_or_past w i 32 k))
    (cases_lt i (length w))

length-padded : (w : List ℕ) (n : ℕ) → length w ≤ n → length (padded n w) ≡ n
length-padded w n h = rw (length-append, length-replicate) (omega arith)

-- a padded word is what is read at each place of it
padded_by_place : (w : List ℕ) (n : ℕ) → length w ≤ n → map (λ i. get_or w i 32) (range_with_len 0 n) ≡ padded n w
padded_by_place w n h =
    same_lists _ _ (rw (length-map, length-range_with_len, length-padded w n h) refl) (λ k d l.
    let m : k < n = rw (length-map, length-range_with_len) at l in
    get_or-map-range_with_len (λ i. get_or w i 32) 0 n k k d m (omega arith) ∙ sym (padded_at w n k d m))

pub padded_orders : (v w : List ℕ) (n : ℕ) → n ≡ max (length v) (length w) → slice_cmp nat_cmp (map (λ i. get_or v i 32) (range_with_len 0 n)) (map (λ i. get_or w i 32) (range_with_len 0 n)) ≡ padded_order v w
padded_orders v w n e = rw (padded_by_place v n (omega (arith, e)), padded_by_place w n (omega (arith, e)), e) refl
