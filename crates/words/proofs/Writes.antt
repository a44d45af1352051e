-- What copies within the bytes in use leave.
use Rattle.std.proofs.Common.{◌≡◌, ℕ, ◌+◌, ◌-◌, ◌≤◌, List, [], ◌∷◌, ◌++◌, length, take, drop, set, sym, ap, ◌∙◌, append_assoc, arith}
use borrow.Rule.Slice.PartMut.{put_mid}
use lib.Seq.{paste}
use Rattle.std.specs.List.{between}
use Rattle.std.proofs.lemmas.List.Edits.{length-between}
use Rattle.std.proofs.lemmas.List.{take_at, take-take, take-append-le, take_more_set, drop_at, drop-drop, length-append, length-set, length-take, length-drop, length-take-le}
use Rattle.std.proofs.lemmas.Slice.{between_is, take-put_mid}

-- a part within the front is a part of the front
pub inner : (xs : List ℕ) (i j u : ℕ) → j ≤ u → between i j xs ≡ between i j (take u xs)
inner xs i j u h = between_is xs i j ∙ ap (drop i) (sym (take-take j u xs h)) ∙ sym (between_is (take u xs) i j)

-- a part copied to the start
pub to_front : (xs : List ℕ) (i j : ℕ) → j ≤ length xs → take (j - i) (paste xs 0 (drop i xs) (j - i)) ≡ drop i (take j xs)
to_front xs i j h = take_at (between i j xs) (drop (0 + (j - i)) xs) (j - i) (length-between xs i j h) ∙ between_is xs i j

-- a byte and a part written at the end of the front
pub behind_end : (xs part word : List ℕ) (at k : ℕ) → at + 1 + length word ≤ length xs → part ≡ word → take (at + 1 + length word) (put_mid (at + 1) k (set xs at 32) part) ≡ take at xs ++ 32 ∷ word
behind_end xs part word at k h e =
    let n : at + 1 + length word ≡ at + 1 + length part = ap (λ (ys : List ℕ). at + 1 + length ys) (sym e) in
    take-put_mid (at + 1) k (set xs at 32) part (at + 1 + length word) n (rw length-set (omega arith))
    ∙ ap (λ (ys : List ℕ). ys ++ part) (take_more_set xs at 32 (omega arith))
    ∙ append_assoc (take at xs) (32 ∷ []) part
    ∙ ap (λ (ys : List ℕ). take at xs ++ 32 ∷ ys) e

-- the back of the front moved, and a part written before it
module _ (xs moved part word : List ℕ) (at old used k : ℕ) where
  pub put_between : at + old ≤ used → used ≤ length xs → used - old + length word ≤ length xs → k ≡ length word → moved ≡ paste xs (at + length word) (drop (at + old) xs) (used - (at + old)) → part ≡ word → take (used - old + length word) (put_mid at k moved part) ≡ take at xs ++ (word ++ drop (at + old) (take used xs))
  put_between h top room z e q =
      let n : ℕ = length word in
      let back : List ℕ = between (at + old) used xs in
      let rest : List ℕ = drop (at + n + (used - (at + old))) xs in
      let lead : length (take (at + n) xs) ≡ at + n = length-take-le (at + n) xs (omega arith) in
      let front : take at moved ≡ take at xs = ap (take at) (e ∙ append_assoc (take (at + n) xs) back rest) ∙ take-append-le at (take (at + n) xs) (back ++ rest) (omega arith) ∙ take-take at (at + n) xs (omega arith) in
      let post : drop k (drop at moved) ≡ back ++ rest = drop-drop k at moved ∙ ap (λ (a : ℕ). drop (at + a) moved) z ∙ ap (drop (at + n)) (e ∙ append_assoc (take (at + n) xs) back rest) ∙ drop_at (take (at + n) xs) (back ++ rest) (at + n) lead in
      let size : length (take at xs ++ (word ++ back)) ≡ used - old + n = simp (length-append, length-take, length-drop) (omega arith) in
      ap (λ (ys : List ℕ). take (used - old + n) (ys ++ (part ++ drop k (drop at moved)))) front
      ∙ ap (λ (ys : List ℕ). take (used - old + n) (take at xs ++ (ys ++ drop k (drop at moved)))) q
      ∙ ap (λ (ys : List ℕ). take (used - old + n) (take at xs ++ (word ++ ys))) post
      ∙ ap (take (used - old + n)) (simp append_assoc)
      ∙ take_at (take at xs ++ (word ++ back)) rest (used - old + n) size
      ∙ ap (λ (ys : List ℕ). take at xs ++ (word ++ ys)) (between_is xs (at + old) used)
