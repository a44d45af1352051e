-- A script has no more lines than bytes, and its lines with the byte after each are at most one byte more.
use Rattle.std.proofs.Common.{ℕ, ◌+◌, ◌≤◌, ◌≡◌, true, false, eqb, List, [], ◌∷◌, ◌++◌, length, ⊎_elim, arith, length-append}
use Rattle.std.specs.List.{sum_by}
use Rattle.std.proofs.lemmas.List.Sums.{sum_by-cons}
use Rattle.std.proofs.lemmas.Bool.{cases_Bool}
use Rattle.script.specs.Lines.{lines_after, lines_of}

-- the bytes of lines, with one after each
abbrev pub size : List (List ℕ) → ℕ
size = sum_by (λ l. length l + 1)

abbrev Sizes : List (List ℕ) → ℕ → Type 0
Sizes ls n = (length ls ≤ n) × (size ls ≤ n + 1)

sizes_after : (l bytes : List ℕ) → Sizes (lines_after l bytes) (length l + length bytes)
sizes_after [] [] = (omega arith, omega arith)
sizes_after (c ∷ l) [] = (omega arith, omega arith)
sizes_after l (b ∷ bs) =
    ⊎_elim
    (λ (e : eqb b 10 ≡ true). let h = sizes_after [] bs in let k = sum_by-cons (λ (t : List ℕ). length t + 1) l (lines_of bs) in rw e (omega arith, omega arith))
    (λ (e : eqb b 10 ≡ false). let h = sizes_after (l ++ b ∷ []) bs in let k = length-append l (b ∷ []) in rw e (omega arith, omega arith))
    (cases_Bool (eqb b 10))

pub lines_sizes : (bytes : List ℕ) → Sizes (lines_of bytes) (length bytes)
lines_sizes bytes = let h = sizes_after [] bytes in (omega arith, omega arith)
