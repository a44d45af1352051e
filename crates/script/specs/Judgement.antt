-- When a script is refused, and with what number.
use Rattle.std.specs.Prelude.{ℕ, ◌+◌, Bool, false, cond, not, ◌||◌, List, [], ◌∷◌, ◌++◌, length, drop, Some, None, Ok, Err, codes, Option, Result, nat_lt}
use Rattle.text.specs.Bytes.{all_within}
use Rattle.std.specs.List.{position}
use Rattle.std.specs.Option.{option_map}
use Rattle.script.specs.Lines.{lines_of, records_of, first_word_is}
use Rattle.script.specs.declared.line.Line.{Line}
use Rattle.script.specs.declared.refusal.Refusal.{Refusal}

-- a line with a byte that is not from 32 to 126
abbrev pub foreign : List ℕ → Bool
foreign l = not (all_within 32 126 l)

abbrev pub long : List ℕ → Bool
long l = nat_lt 255 (length l)

-- the number of the first line that fails, counted from 1
abbrev pub first_line : (List ℕ → Bool) → List (List ℕ) → Option ℕ
first_line fails lines = option_map (λ i. i + 1) (position fails lines)

abbrev pub traced : List (List ℕ) → Bool
traced [] = false
traced (l ∷ ls) = first_word_is (codes "&TRACE") l

abbrev pub Verdict : Type 0
Verdict = Result ℕ (ℕ × Option ℕ)

-- a refusal that names a line, where there is one
abbrev pub unless_at : ℕ → Option ℕ → Verdict → Verdict
unless_at number None v = v
unless_at number (Some line) v = Err (number, Some line)

abbrev pub judged_lines : List (List ℕ) → ℕ → Verdict
judged_lines lines records =
    unless_at 2 (first_line foreign lines)
    (unless_at 3 (first_line long lines)
    (cond (nat_lt 1024 (length lines) || nat_lt records (length lines)) (Err (4, None))
    (cond (traced lines) (Ok (length lines)) (Err (5, None)))))

-- the number of lines, or the first refusal that is due, for so many records
abbrev pub judged : List ℕ → ℕ → Verdict
judged bytes records = cond (nat_lt 65535 (length bytes)) (Err (1, None)) (judged_lines (lines_of bytes) records)

-- what the directory holds then: the records of the script and, beyond them, what it held; a refusal leaves it
abbrev pub filled : List ℕ → List Line → Result ℕ Refusal → List Line
filled bytes directory (Ok n) = records_of bytes ++ drop n directory
filled bytes directory (Err e) = directory
