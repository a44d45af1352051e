-- Answer books: what a host answers to every list of commands that may yet be sent.
use Rattle.std.specs.Prelude.{ℕ, cond, List, [], ◌∷◌, ℤ}
use Rattle.std.specs.Str.{bytes_eq}

-- a command and the environment that it is for, byte strings of any content and length
pub record Pair : Type 0 where
  pub environment : List ℕ
  pub command : List ℕ

abbrev pub pair : List ℕ → List ℕ → Pair
pair e c = record { environment = e; command = c }

-- what a host answers to one pair: a code
abbrev pub Answer : Type 0
Answer = ℤ

-- for the pairs sent first, in their order, and one more, the answer to that last one
abbrev pub Book : Type 0
Book = List Pair → Pair → Answer

-- the answer to the pair that is sent next
abbrev pub answer_to : Book → Pair → Answer
answer_to book p = book [] p

-- the book once a pair has been sent: each list gets what it got with that pair in front
abbrev pub after : Book → Pair → Book
after book p = λ before last. book (p ∷ before) last

-- the listed pairs that go to a name, with their environment emptied
abbrev pub going_to : List ℕ → List Pair → List Pair
going_to name [] = []
going_to name (p ∷ ps) = cond (bytes_eq p.environment name) (pair [] p.command ∷ going_to name ps) (going_to name ps)

-- the listed pairs that go elsewhere, as they are
abbrev pub going_elsewhere : List ℕ → List Pair → List Pair
going_elsewhere name [] = []
going_elsewhere name (p ∷ ps) = cond (bytes_eq p.environment name) (going_elsewhere name ps) (p ∷ going_elsewhere name ps)

-- the answer of the last pair's host for the listed pairs that go there
abbrev pub switched : List ℕ → Book → Book → Book
switched name first second =
    λ before last. cond (bytes_eq last.environment name) (first (going_to name before) (pair [] last.command)) (second (going_elsewhere name before) last)
