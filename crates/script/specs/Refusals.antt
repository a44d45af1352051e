-- What each refusal of Check tells: its number, and the first line at fault where it names one.
use Rattle.std.specs.Prelude.{ℕ, List, ◌++◌, Some, None, Ok, Err, Option, Result, codes, decimal}
use Rattle.script.specs.declared.refusal.Refusal.{Refusal}
use Rattle.script.specs.declared.refusal.Refusal.TheVariants.{TooManyBytes, ByteNotAllowed, LineTooLong, TooManyLines, NoTrace}

abbrev pub refusal_number : Refusal → ℕ
refusal_number TooManyBytes = 1
refusal_number (ByteNotAllowed l) = 2
refusal_number (LineTooLong l) = 3
refusal_number TooManyLines = 4
refusal_number NoTrace = 5

abbrev pub refusal_line : Refusal → Option ℕ
refusal_line TooManyBytes = None
refusal_line (ByteNotAllowed l) = Some l
refusal_line (LineTooLong l) = Some l
refusal_line TooManyLines = None
refusal_line NoTrace = None

-- a refusal in words: `refused 2 line 7`, or `refused 4`
abbrev pub refusal_words : ℕ → Option ℕ → List ℕ
refusal_words number None = codes "refused " ++ decimal number
refusal_words number (Some line) = codes "refused " ++ decimal number ++ codes " line " ++ decimal line

-- an answer with its refusal told by number and line
abbrev pub told : Result ℕ Refusal → Result ℕ (ℕ × Option ℕ)
told (Ok n) = Ok n
told (Err e) = Err (refusal_number e, refusal_line e)
