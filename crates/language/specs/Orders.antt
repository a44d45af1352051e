-- Control words other than &IF and &READ, and commands: what each does with the words after it.
use Rattle.std.specs.Prelude.{ℕ, ◌+◌, ◌-◌, cond, not, ◌||◌, List, [], ◌∷◌, length, drop, ℤ, pos, negsuc, Ok, Err, codes, Option, Result, nat_le, nat_lt}
use Rattle.std.specs.Option.{ok_or}
use Rattle.std.specs.Str.{bytes_eq}
use Rattle.text.specs.Numbers.{number_of}
use Rattle.script.specs.Lines.{lines_of}
use Rattle.script.specs.Views.{labelled}
use Rattle.host.specs.Books.{pair}
use Rattle.machine.specs.Machines.{Line, Stacking, Action}
use Rattle.language.specs.Texts.{Bytes, has_ampersand, has_hyphen, spaced, tabled, most_calls, most_stacked}
use Rattle.language.specs.Faults.{◌>>=◌, ◌>>◌, must, by_statement, by_store}
use Rattle.language.specs.Cores.{Frame, Core, with_arguments, with_frames, presuming, leaving, answered, go_to, go_on, exited}
use Rattle.language.specs.declared.fault.StatementFault.{StatementFault}
use Rattle.language.specs.declared.fault.StatementFault.TheVariants.{NoControlWord, WrongWord, NoSuchLabel}
use Rattle.language.specs.declared.fault.StatementFault.TheVariants.{LineBelowOne, TooManyCalls, NoOpenCall}
use Rattle.language.specs.declared.fault.StoreFault.{StoreFault}
use Rattle.language.specs.declared.fault.StoreFault.TheVariants.{TooManyLines}
use Rattle.language.specs.declared.fault.Cause.{Cause}

pub data Order : Type 0 where
  args call command exit goto presume print return skip stack subcommand trace : Order

-- a control word: those that substitute their own words, and the orders, whose words are all substituted first
pub data Control : Type 0 where
  whether : Control
  read : Control
  obeys : Order → Control

abbrev pub controls : List (Bytes × Control)
controls =
    (codes "&ARGS", obeys args) ∷ (codes "&CALL", obeys call) ∷ (codes "&COMMAND", obeys command)
    ∷ (codes "&EXIT", obeys exit) ∷ (codes "&GOTO", obeys goto) ∷ (codes "&IF", whether)
    ∷ (codes "&PRESUME", obeys presume) ∷ (codes "&PRINT", obeys print) ∷ (codes "&READ", read)
    ∷ (codes "&RETURN", obeys return) ∷ (codes "&SKIP", obeys skip) ∷ (codes "&STACK", obeys stack)
    ∷ (codes "&SUBCOMMAND", obeys subcommand) ∷ (codes "&TRACE", obeys trace) ∷ (codes "&TYPE", obeys print) ∷ []

unfoldable pub control_of : Bytes → Option Control
control_of = tabled controls

-- a change of the core alone
abbrev pub becomes : Core → Action Core
becomes = Action.moves Stacking.none

-- &GOTO and &CALL: the line that bears a label, from the following line round, or a line number from 1 on
abbrev pub line_from : ℤ → Result ℕ StatementFault
line_from (pos n) = must (nat_le 1 n) LineBelowOne >> Ok n
line_from (negsuc n) = Err LineBelowOne

abbrev pub destination : Core → List Bytes → Result ℕ StatementFault
destination c [] = Err WrongWord
destination c (w ∷ ws) =
    cond (has_hyphen w)
    (ok_or (labelled (lines_of c.script) c.place w) NoSuchLabel)
    (ok_or (number_of w) WrongWord >>= λ z. line_from z)

abbrev pub goes : Core → List Bytes → Result (Action Core) StatementFault
goes c ws = destination c ws >>= λ line. Ok (becomes (go_to (leaving c) line))

-- what a call brings back when it closes
abbrev pub frame_of : Core → Frame
frame_of c = record { line = c.place; arguments = c.arguments }

-- the words after the destination are the arguments of the call
abbrev pub calls : Core → List Bytes → Result (Action Core) StatementFault
calls c ws = do
  line ← destination c ws
  must (nat_lt (length c.frames) most_calls) TooManyCalls
  Ok (becomes (go_to (with_arguments (with_frames c (frame_of c ∷ c.frames)) (drop 1 ws)) line))

-- the line after the &CALL, with the arguments of the caller
abbrev pub returns : Core → List Frame → Result (Action Core) StatementFault
returns c [] = Err NoOpenCall
returns c (f ∷ fs) = Ok (becomes (go_to (with_arguments (with_frames c fs) f.arguments) (f.line + 1)))

-- &EXIT and &SKIP: the number that the first word writes, or another where there is none
abbrev pub number_or : ℤ → List Bytes → Result ℤ StatementFault
number_or z [] = Ok z
number_or z (w ∷ ws) = ok_or (number_of w) WrongWord

abbrev pub exits : Core → List Bytes → Result (Action Core) StatementFault
exits c ws = number_or (pos 0) ws >>= λ z. Ok (becomes (exited c z))

-- over so many lines, or up by so many
abbrev pub skipped : Core → ℤ → Result (Action Core) StatementFault
skipped c (pos n) = Ok (becomes (go_to c (c.place + n + 1)))
skipped c (negsuc n) = must (nat_lt (n + 1) c.place) LineBelowOne >> Ok (becomes (go_to c (c.place - (n + 1))))

abbrev pub skips : Core → List Bytes → Result (Action Core) StatementFault
skips c ws = number_or (pos 1) ws >>= λ z. skipped c z

-- a command to an environment; the code that comes back is kept
abbrev pub sends : Core → Bytes → List Bytes → Action Core
sends c environment ws = Action.issues (pair environment (spaced ws)) (λ z. go_on (answered c z))

abbrev pub subcommands : Core → List Bytes → Result (Action Core) StatementFault
subcommands c [] = Err WrongWord
subcommands c (e ∷ ws) = Ok (sends c e ws)

-- nothing or &COMMAND for the host system, or &SUBCOMMAND and an environment
abbrev pub presumes : Core → List Bytes → Result (Action Core) StatementFault
presumes c [] = Ok (becomes (go_on (presuming c [])))
presumes c (w ∷ []) = must (bytes_eq w (codes "&COMMAND")) WrongWord >> Ok (becomes (go_on (presuming c [])))
presumes c (w ∷ (e ∷ [])) = must (bytes_eq w (codes "&SUBCOMMAND")) WrongWord >> Ok (becomes (go_on (presuming c e)))
presumes c (w ∷ (e ∷ (x ∷ xs))) = Err WrongWord

-- a line joins the stack as the last, or as the first with LIFO
abbrev pub stacking : List Bytes → Stacking
stacking [] = Stacking.last []
stacking (w ∷ ws) =
    cond (bytes_eq w (codes "LIFO")) (Stacking.first (spaced ws))
    (cond (bytes_eq w (codes "FIFO")) (Stacking.last (spaced ws)) (Stacking.last (spaced (w ∷ ws))))

abbrev pub stacks : Core → List Line → List Bytes → Result (Action Core) StoreFault
stacks c st ws = must (nat_lt (length st) most_stacked) TooManyLines >> Ok (Action.moves (stacking ws) (go_on c))

-- nothing, OFF or *
abbrev pub traces : Core → List Bytes → Result (Action Core) StatementFault
traces c [] = Ok (becomes (go_on c))
traces c (w ∷ []) = must (bytes_eq w (codes "OFF") || bytes_eq w (codes "*")) WrongWord >> Ok (becomes (go_on c))
traces c (w ∷ (x ∷ xs)) = Err WrongWord

-- what an order does with the words after it, and the lines on the stack
abbrev pub obeyed : Core → List Line → Order → List Bytes → Result (Action Core) Cause
obeyed c st args ws = Ok (becomes (go_on (with_arguments c ws)))
obeyed c st call ws = by_statement (calls c ws)
obeyed c st command ws = by_statement (must (nat_le 1 (length ws)) WrongWord >> Ok (sends c [] ws))
obeyed c st exit ws = by_statement (exits c ws)
obeyed c st goto ws = by_statement (goes c ws)
obeyed c st presume ws = by_statement (presumes c ws)
obeyed c st print ws = Ok (Action.prints (spaced ws) (go_on c))
obeyed c st return ws = by_statement (returns c c.frames)
obeyed c st skip ws = by_statement (skips c ws)
obeyed c st stack ws = by_store (stacks c st ws)
obeyed c st subcommand ws = by_statement (subcommands c ws)
obeyed c st trace ws = by_statement (traces c ws)

-- a first word that is no control word: a command to the presumed environment, unless it has an ampersand
abbrev pub commanded : Core → Bytes → List Bytes → Result (Action Core) Cause
commanded c t ws = by_statement (must (not (has_ampersand t)) NoControlWord >> Ok (sends c c.presumed (t ∷ ws)))
