-- The first record that passes a test, from a place round to it again.
use Rattle.std.specs.Prelude.{ℕ, Bool, List, take, drop, Some, None, Option}
use Rattle.std.specs.List.{position_from}

-- the place of the first that passes, where the first of the list has the place i
abbrev pub first_from : {R : Type 0} → (R → Bool) → ℕ → List R → Option ℕ
first_from p i xs = position_from p i xs

abbrev pub or_else : Option ℕ → Option ℕ → Option ℕ
or_else None o = o
or_else (Some i) o = Some i

abbrev pub first_round : {R : Type 0} → (R → Bool) → ℕ → List R → Option ℕ
first_round p from xs = or_else (first_from p from (drop from xs)) (first_from p 0 (take from xs))
