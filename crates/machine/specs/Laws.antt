-- The comparison law: what two sessions from equal starts have in common, whatever calls are made on each.
use Rattle.std.specs.Prelude.{◌≡◌, ℕ, ◌+◌, ◌≤◌, ◌⊎◌, List, ◌++◌, length}
use Rattle.machine.specs.Machines.{Machine, State}
use Rattle.machine.specs.Calls.{Call}
use Rattle.machine.specs.Courses.{Course, begun, course}

-- a list begins another when it is its first part, perhaps empty or whole
abbrev pub Begins : {A : Type 0} → List A → List A → Type 0
Begins {A = A} xs ys = (rest : List A) × (xs ++ rest ≡ ys)

-- where one's typed lines begin the other's: the course with no more steps printed and issued the first part of what the other
-- did; and with as many steps the sessions agree in core and stack, and their hosts' books are equal again
pub record Alike {C : Type 0} (p q : Course C) : Type 0 where
  pub prints : p.taken ≤ q.taken → Begins p.printed q.printed
  pub issues : p.taken ≤ q.taken → Begins p.issued q.issued
  pub cores : p.taken ≡ q.taken → p.state.core ≡ q.state.core
  pub stacks : p.taken ≡ q.taken → p.state.stack ≡ q.state.stack
  pub books : p.taken ≡ q.taken → p.state.book ≡ q.state.book

-- the lines that stood at first, the typed ones and those stacked are those read, those on the stack and those that wait
abbrev pub Balanced : {C : Type 0} → State C → Course C → Type 0
Balanced s p =
    length s.stack + length s.waiting + length p.typed + p.stacked ≡ p.read + length p.state.stack + length p.state.waiting

-- the steps of a session are the sum of what its runs answered
abbrev pub Counted : {C : Type 0} → State C → Course C → Type 0
Counted s p = p.state.steps ≡ s.steps + p.taken

pub record Compares {C : Type 0} (M : Machine C) (width : ℕ) : Type 0 where
  pub alike :
      (s t : State C) (ks ls : List Call) → s ≡ t
      → Begins (course M width ks (begun s)).typed (course M width ls (begun t)).typed ⊎ Begins (course M width ls (begun t)).typed (course M width ks (begun s)).typed
      → Alike (course M width ks (begun s)) (course M width ls (begun t))
  pub balanced : (s : State C) (ks : List Call) → Balanced s (course M width ks (begun s))
  pub counted : (s : State C) (ks : List Call) → Counted s (course M width ks (begun s))

-- for any machine, on lines of any width
abbrev pub Comparison : Type 0 → Type 0
Comparison C = (M : Machine C) (width : ℕ) → Compares M width
