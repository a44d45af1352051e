-- Tables whose first records are in use: a record taken out.
use Rattle.std.proofs.Common.{◌≡◌, ℕ, suc, ◌-◌, ◌<◌, ◌≤◌, List, ◌++◌, map, length, take, drop, sym, ap, ◌∙◌, append_assoc, add-one, arith, length-append, length-drop, length-take}
use borrow.Rule.Slice.PartMut.{put_mid, post_of}
use Rattle.std.specs.List.{remove}
use Rattle.std.proofs.lemmas.List.{take_at, take-take, drop-drop, map-append, take-map, drop-map}
use Rattle.std.proofs.lemmas.Slice.{between_is}

pub rotated : {T : Type 0} (records : List T) (count i : ℕ) (part : List T) → count ≤ length records → i < count → part ≡ drop 1 (take (count - i) (drop i records)) ++ take 1 (take (count - i) (drop i records)) → take (count - 1) (put_mid i (count - i) records part) ≡ remove (take count records) i
rotated {T} records count i part fits h e =
    let ys : List T = take (count - i) (drop i records) in
    let back : drop 1 ys ≡ drop (suc i) (take count records) = ap (drop 1) (between_is records i count) ∙ drop-drop 1 i (take count records) ∙ ap (λ (m : ℕ). drop m (take count records)) (add-one i) in
    let front : take i records ≡ take i (take count records) = sym (take-take i count records (omega arith)) in
    let n : length (take i records ++ drop 1 ys) ≡ count - 1 = simp (length-append, length-take, length-drop) (omega arith) in
    ap (λ (zs : List T). take (count - 1) (take i records ++ (zs ++ post_of i (count - i) records))) e
    ∙ ap (take (count - 1)) (simp append_assoc)
    ∙ take_at (take i records ++ drop 1 ys) (take 1 ys ++ post_of i (count - i) records) (count - 1) n
    ∙ ap (λ (zs : List T). zs ++ drop 1 ys) front
    ∙ ap (λ (zs : List T). take i (take count records) ++ zs) back

pub map-removed : {A B : Type 0} (f : A → B) (xs : List A) (i : ℕ) → map f (remove xs i) ≡ remove (map f xs) i
map-removed f xs i =
    map-append f (take i xs) (drop (suc i) xs)
    ∙ ap (λ (ys : List _). ys ++ map f (drop (suc i) xs)) (sym (take-map f i xs))
    ∙ ap (λ (ys : List _). take i (map f xs) ++ ys) (sym (drop-map f (suc i) xs))
