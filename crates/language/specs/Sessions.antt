-- The language as a machine: what a session shows and reports, and how one is opened.
use Rattle.std.specs.Prelude.{ℕ, Bool, true, false, cond, ◌&&◌, [], ◌∷◌, ◌++◌, length, None, Ok, Err, codes, decimal, Option, Result, nat_le}
use Rattle.std.specs.Fmt.{signed_decimal}
use Rattle.text.specs.Bytes.{all_within}
use Rattle.host.specs.Books.{Book}
use Rattle.machine.specs.Machines.{Machine, State}
use Rattle.language.specs.Texts.{Bytes, has_ampersand, longest_name, longest_text}
use Rattle.language.specs.Faults.{cause_number, layer_name}
use Rattle.language.specs.Cores.{Core, fresh}
use Rattle.language.specs.Store.{value_of}
use Rattle.language.specs.Statements.{act}
use Rattle.language.specs.declared.life.Life.{Life}
use Rattle.language.specs.declared.life.Life.TheVariants.{Running, Ended, Stopped}

abbrev pub has_ended : Life → Bool
has_ended Running = false
has_ended (Ended z) = true
has_ended (Stopped s) = true

-- a name that may be asked for: an ampersand first, at most 32 bytes, each from 32 to 126
abbrev pub askable : Bytes → Bool
askable n = has_ampersand n && nat_le (length n) longest_name && all_within 32 126 n

-- the value that a session shows of a name, taken as it is; none where the name is refused
abbrev pub shown : Core → Bytes → Option Bytes
shown c n = cond (askable n) (value_of c n) None

abbrev pub life_text : Life → Bytes
life_text Running = codes "OPEN"
life_text (Ended z) = codes "END " ++ signed_decimal z
life_text (Stopped s) =
    codes "STOP " ++ decimal (cause_number s.cause) ++ codes " LINE " ++ decimal s.line
    ++ codes " WORD " ++ decimal s.word ++ codes " LAYER " ++ layer_name s.cause

-- the report after so many steps, with the byte that ends it
abbrev pub reported : Core → ℕ → Bytes
reported c steps = life_text c.life ++ codes " STEPS " ++ decimal steps ++ 10 ∷ []

abbrev pub language : Machine Core
language = record { act = act; ended = λ c. has_ended c.life; value = shown; report = reported }

-- a string that Open takes
abbrev pub openable : Bytes → Bool
openable string = nat_le (length string) longest_text && all_within 32 126 string

-- what Open comes to: a new core on the script, or the number of its refusal
abbrev pub opening : Bytes → Bytes → Result Core ℕ
opening script string = cond (openable string) (Ok (fresh script string)) (Err 6)

-- a new session: nothing stacked, nothing waiting, and no step taken
abbrev pub new_session : Core → Book → State Core
new_session c book = record { core = c; stack = []; waiting = []; steps = 0; book = book }
