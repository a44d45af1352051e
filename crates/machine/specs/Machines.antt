-- Machines that interact with the world: what one step does, and what it leaves.
use Rattle.std.specs.Prelude.{ℕ, suc, ◌+◌, Bool, List, [], ◌∷◌, ◌++◌, take, Option}
use Rattle.host.specs.Books.{Pair, Answer, Book, answer_to, after}

-- a line of text, as its bytes, without the byte that ends it
abbrev pub Line : Type 0
Line = List ℕ

-- a line that a step puts on the stack: none, or one that is read first, or one that is read last
pub data Stacking : Type 0 where
  none : Stacking
  first : Line → Stacking
  last : Line → Stacking

-- what one step does, where C is the type of a machine's core
pub data Action (C : Type 0) : Type 0 where
  -- changes the core alone, and may stack a line
  moves : Stacking → C → Action C
  -- prints a line
  prints : Line → C → Action C
  -- sends a pair, and goes on with the host's answer
  issues : Pair → (Answer → C) → Action C
  -- takes a line, and goes on with it: the first of the stack, or else the oldest typed line that waits
  reads : (Line → C) → Action C

-- a machine: what a step does in a core with these lines on the stack, whether the core has ended, the value that it shows of a
-- name, none where there is no such name, and the report after so many steps
pub record Machine (C : Type 0) : Type 0 where
  pub act : C → List Line → Action C
  pub ended : C → Bool
  pub value : C → List ℕ → Option (List ℕ)
  pub report : C → ℕ → List ℕ

-- a session and its host: the core, the stack, the typed lines that wait, the oldest first, the steps taken, and the host's book
pub record State (C : Type 0) : Type 0 where
  pub core : C
  pub stack : List Line
  pub waiting : List Line
  pub steps : ℕ
  pub book : Book

-- what steps did: the bytes printed, the pairs issued with their answers, and how many lines were stacked and read
pub record Deeds : Type 0 where
  pub printed : List ℕ
  pub issued : List (Pair × Answer)
  pub stacked : ℕ
  pub read : ℕ

abbrev pub nothing : Deeds
nothing = record { printed = []; issued = []; stacked = 0; read = 0 }

infixl 50 ◌then◌
abbrev pub ◌then◌ : Deeds → Deeds → Deeds
d then e =
    record { printed = d.printed ++ e.printed; issued = d.issued ++ e.issued; stacked = d.stacked + e.stacked; read = d.read + e.read }

-- what comes of trying a step: it waits for a line, or it did something and left a state
pub data Outcome (C : Type 0) : Type 0 where
  waits : Outcome C
  goes : Deeds → State C → Outcome C

-- a printed line is cut to the width, and byte 10 ends it
abbrev pub cut_line : ℕ → Line → List ℕ
cut_line width l = take width l ++ 10 ∷ []

abbrev pub stacked_by : Stacking → List Line → List Line
stacked_by none st = st
stacked_by (first l) st = l ∷ st
stacked_by (last l) st = st ++ l ∷ []

abbrev pub count_by : Stacking → ℕ
count_by none = 0
count_by (first l) = 1
count_by (last l) = 1

module _ {C : Type 0} where
  -- the state one step on
  abbrev pub onward : State C → C → List Line → List Line → Book → State C
  onward s c st w b = record { core = c; stack = st; waiting = w; steps = suc s.steps; book = b }

  -- a line is read from the stack, or else from those that wait
  abbrev pub reading : State C → (Line → C) → List Line → List Line → Outcome C
  reading s k (l ∷ st) w =
      goes (record { printed = []; issued = []; stacked = 0; read = 1 }) (onward s (k l) st w s.book)
  reading s k [] (l ∷ w) =
      goes (record { printed = []; issued = []; stacked = 0; read = 1 }) (onward s (k l) [] w s.book)
  reading s k [] [] = waits

  abbrev pub acting : ℕ → State C → Action C → Outcome C
  acting width s (moves p c) =
      goes (record { printed = []; issued = []; stacked = count_by p; read = 0 }) (onward s c (stacked_by p s.stack) s.waiting s.book)
  acting width s (prints l c) =
      goes (record { printed = cut_line width l; issued = []; stacked = 0; read = 0 }) (onward s c s.stack s.waiting s.book)
  acting width s (issues p k) =
      goes (record { printed = []; issued = (p, answer_to s.book p) ∷ []; stacked = 0; read = 0 })
      (onward s (k (answer_to s.book p)) s.stack s.waiting (after s.book p))
  acting width s (reads k) = reading s k s.stack s.waiting

-- one step of a machine, on lines of a width
abbrev pub step : {C : Type 0} → Machine C → ℕ → State C → Outcome C
step M width s = acting width s (M.act s.core s.stack)
