-- A part of a list whose bounds are cut to its length.
use Rattle.std.proofs.Common.{◌≡◌, ℕ, ◌+◌, ◌-◌, min, List, length, take, drop, ap, ◌∙◌, arith, length-drop}
use Rattle.std.proofs.lemmas.List.{drop_min, take_min}

pub cut_part : {A : Type 0} (xs : List A) (offset n from to : ℕ) → from ≡ min offset (length xs) → to ≡ min (from + n) (length xs) → take (to - from) (drop from xs) ≡ take n (drop offset xs)
cut_part {A} xs offset n from to e f =
    let k : to - from ≡ min n (length (drop from xs)) = rw length-drop (omega arith) in
    ap (λ (m : ℕ). take m (drop from xs)) k
    ∙ take_min n (drop from xs)
    ∙ ap (λ (m : ℕ). take n (drop m xs)) e
    ∙ ap (take n) (drop_min offset xs)
