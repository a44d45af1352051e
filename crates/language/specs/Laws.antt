-- The comparison law for scenarios, in the words of the subject.
use Rattle.std.specs.Prelude.{◌≡◌, ◌+◌, ◌≤◌, true, ◌⊎◌, List, length}
use Rattle.host.specs.Books.{Book}
use Rattle.machine.specs.Calls.{Call}
use Rattle.machine.specs.Courses.{Course, begun, course}
use Rattle.machine.specs.Laws.{Begins}
use Rattle.machine.specs.Machines.{State}
use Rattle.language.specs.Texts.{Bytes, printed_width}
use Rattle.language.specs.Cores.{Core, fresh}
use Rattle.language.specs.Sessions.{shown, language, openable, new_session}

-- two sessions agree: in the value of every name that is shown, kept ones too, in arguments, presumed environment and stack, in
-- their open calls and what each return would bring back, in place and end; and their hosts have one book
pub record Agree (p q : State Core) : Type 0 where
  pub variables : (name : Bytes) → shown p.core name ≡ shown q.core name
  pub arguments : p.core.arguments ≡ q.core.arguments
  pub environment : p.core.presumed ≡ q.core.presumed
  pub stack : p.stack ≡ q.stack
  pub calls : p.core.frames ≡ q.core.frames
  pub place : p.core.place ≡ q.core.place
  pub end : p.core.life ≡ q.core.life
  pub books : p.book ≡ q.book

-- a scenario played: a session opened on a script with an argument string, a host known by its book, and calls
abbrev pub scenario : Bytes → Bytes → Book → List Call → Course Core
scenario script string book ks = course language printed_width ks (begun (new_session (fresh script string) book))

-- what the two sessions have in common
pub record Comparable (p q : Course Core) : Type 0 where
  pub prints : p.taken ≤ q.taken → Begins p.printed q.printed
  pub issues : p.taken ≤ q.taken → Begins p.issued q.issued
  pub agree : p.taken ≡ q.taken → Agree p.state q.state

pub record Played (p : Course Core) : Type 0 where
  -- typed and stacked lines are those read, those stacked still and those that wait still
  pub balance : length p.typed + p.stacked ≡ p.read + length p.state.stack + length p.state.waiting
  -- the steps are the sum of what the runs answered
  pub steps : p.state.steps ≡ p.taken

-- for every two hosts with equal books, and every two lists of calls
pub record ScenariosCompare : Type 0 where
  pub compare :
      (script string : Bytes) (a b : Book) (ks ls : List Call) → openable string ≡ true → a ≡ b
      → Begins (scenario script string a ks).typed (scenario script string b ls).typed ⊎ Begins (scenario script string b ls).typed (scenario script string a ks).typed
      → Comparable (scenario script string a ks) (scenario script string b ls)
  pub played : (script string : Bytes) (book : Book) (ks : List Call) → Played (scenario script string book ks)
