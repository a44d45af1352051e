-- The bytes that a line may have.
use Rattle.std.specs.Prelude.{ℕ, Bool, List}
use Rattle.std.specs.Int.{is_in_range}
use Rattle.std.specs.List.{list_all}

-- whether every byte is from lo to hi
abbrev pub all_within : ℕ → ℕ → List ℕ → Bool
all_within lo hi bs = list_all (is_in_range lo hi) bs
