-- Tables of names: what the code's tables list, and the byte that tells names apart.
use Rattle.std.specs.Prelude.{ℕ, List, map, slice_index}
use Rattle.std.specs.Borrow.{Bor}
use Rattle.language.specs.Texts.{Bytes}

-- the entries of a table whose names are lent
abbrev pub listed : {A : Type 0} → List (Bor Bytes × A) → List (Bytes × A)
listed t = map (λ e. (e.0.now, e.1)) t

-- the byte that tells most names apart; 0 where there is none
abbrev pub telling : Bytes → ℕ
telling name = slice_index name 1
