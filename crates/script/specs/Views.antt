-- What a checked script shows, and how Check leaves it.
use Rattle.std.specs.Prelude.{◌≡◌, ℕ, zero, suc, ◌+◌, List, length, take, drop, None, Ok, Err, Option, Result}
use Rattle.std.specs.Option.{option_map}
use Rattle.std.specs.List.{slice_get}
use Rattle.text.specs.Search.{first_round}
use Rattle.script.specs.declared.line.Line.{Line}
use Rattle.script.specs.declared.refusal.Refusal.{Refusal}
use Rattle.script.specs.declared.script.Script.{Script}
use Rattle.script.specs.Lines.{lines_of, first_word_is}
use Rattle.script.specs.Judgement.{filled}

abbrev pub bytes_of : Script → List ℕ
bytes_of s = s.bytes.now

abbrev pub script_lines : Script → List (List ℕ)
script_lines s = lines_of (bytes_of s)

-- the line of a number, counted from 1
abbrev pub line_numbered : List (List ℕ) → ℕ → Option (List ℕ)
line_numbered lines zero = None
line_numbered lines (suc i) = slice_get lines i

-- the number of the first line whose first word is the label, from the line after the given one round to it
abbrev pub labelled : List (List ℕ) → ℕ → List ℕ → Option ℕ
labelled lines from label = option_map (λ i. i + 1) (first_round (first_word_is label) from lines)

-- how Check leaves a script: with the bytes and the directory that it was given, or as it was
abbrev pub Left : Script → List ℕ → List Line → Result ℕ Refusal → Script → Type 0
Left was bytes directory (Ok n) is = (bytes_of is ≡ bytes) × (is.lines.now ≡ take n (filled bytes directory (Ok n))) × (is.beyond.now ≡ drop n (filled bytes directory (Ok n))) × (length is.lines.now ≡ n)
Left was bytes directory (Err e) is = is ≡ was
