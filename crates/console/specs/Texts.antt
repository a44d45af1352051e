-- What the program writes for `check` and `list`.
use Rattle.std.specs.Prelude.{ℕ, ◌+◌, List, [], ◌∷◌, ◌++◌, Ok, Err, codes, decimal, Option}
use Rattle.script.specs.Judgement.{Verdict, judged}
use Rattle.script.specs.Lines.{records_of, line_text}
use Rattle.script.specs.Refusals.{refusal_words}
use Rattle.script.specs.declared.line.Line.{Line}

-- a number and the blank or the end of line after it
abbrev pub field : ℕ → List ℕ
field n = decimal n ++ 32 ∷ []

-- `7 lines`
abbrev pub count_text : ℕ → List ℕ
count_text n = decimal n ++ codes " lines\n"

-- a refusal in words and the end of line
abbrev pub refusal_text : ℕ → Option ℕ → List ℕ
refusal_text number line = refusal_words number line ++ 10 ∷ []

-- one line of a script: its number, offset, length and text
abbrev pub row_text : ℕ → Line → List ℕ → List ℕ
row_text number l text = field number ++ field l.offset ++ field l.length ++ text ++ 10 ∷ []

-- the lines of a script, the first with the given number
abbrev pub rows_from : List ℕ → ℕ → List Line → List ℕ
rows_from bytes number [] = []
rows_from bytes number (l ∷ ls) = row_text number l (line_text bytes l) ++ rows_from bytes (number + 1) ls

abbrev pub check_by : Verdict → List ℕ
check_by (Ok n) = count_text n
check_by (Err e) = refusal_text e.0 e.1

-- the program lends 1,024 records
abbrev pub check_text : List ℕ → List ℕ
check_text bytes = check_by (judged bytes 1024)

abbrev pub list_by : List ℕ → Verdict → List ℕ
list_by bytes (Ok n) = rows_from bytes 1 (records_of bytes) ++ count_text n
list_by bytes (Err e) = refusal_text e.0 e.1

abbrev pub list_text : List ℕ → List ℕ
list_text bytes = list_by bytes (judged bytes 1024)
