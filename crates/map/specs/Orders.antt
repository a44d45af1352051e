-- Orders as they are written: PLACE piece row column, MOVE piece row column, TAKE piece.
use Rattle.std.specs.Prelude.{ℕ, cond, List, [], ◌∷◌, length, ℤ, Some, None, codes, Option, nat_le}
use Rattle.std.specs.Str.{bytes_eq}
use Rattle.text.specs.Numbers.{number_of}

pub data Order : Type 0 where
  place : List ℕ → ℤ → ℤ → Order
  move : List ℕ → ℤ → ℤ → Order
  take : List ℕ → Order

abbrev pub both : Option ℤ → Option ℤ → Option (ℤ × ℤ)
both None c = None
both (Some r) None = None
both (Some r) (Some c) = Some (r, c)

-- two numeric words and no more: row and column
abbrev pub square_of : List (List ℕ) → Option (ℤ × ℤ)
square_of [] = None
square_of (r ∷ []) = None
square_of (r ∷ c ∷ []) = both (number_of r) (number_of c)
square_of (r ∷ c ∷ w ∷ ws) = None

abbrev pub with_square : (ℤ → ℤ → Order) → Option (ℤ × ℤ) → Option Order
with_square order None = None
with_square order (Some s) = Some (order s.0 s.1)

abbrev pub alone : Order → List (List ℕ) → Option Order
alone order [] = Some order
alone order (w ∷ ws) = None

-- what a verb and a piece ask for, with the words that follow
abbrev pub order_by : List ℕ → List ℕ → List (List ℕ) → Option Order
order_by verb piece rest =
    cond (bytes_eq verb (codes "PLACE")) (with_square (place piece) (square_of rest))
    (cond (bytes_eq verb (codes "MOVE")) (with_square (move piece) (square_of rest))
    (cond (bytes_eq verb (codes "TAKE")) (alone (take piece) rest)
    None))

-- an order of these words; none where it is malformed. A piece has at most eight bytes
abbrev pub order_of : List (List ℕ) → Option Order
order_of [] = None
order_of (verb ∷ []) = None
order_of (verb ∷ piece ∷ rest) = cond (nat_le (length piece) 8) (order_by verb piece rest) None
