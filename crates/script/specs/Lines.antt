-- The lines of a script, and the records that tell where they stand.
use Rattle.std.specs.Prelude.{◌≡◌, ℕ, ◌+◌, ◌<◌, ◌≤◌, Bool, false, cond, List, [], ◌∷◌, ◌++◌, length, take, drop, Some, None, Option, ◌==◌}
use Rattle.std.specs.List.{prefix_len}
use Rattle.std.specs.Str.{bytes_eq}
use Rattle.text.specs.Words.{close, differs, words_of}
use Rattle.script.specs.declared.line.Line.{Line}

-- the lines of what is left, after the bytes of the line that has begun
abbrev pub lines_after : List ℕ → List ℕ → List (List ℕ)
lines_after l [] = close l []
lines_after l (b ∷ bs) = cond (b == 10) (l ∷ lines_after [] bs) (lines_after (l ++ b ∷ []) bs)

-- byte 10 ends a line, and bytes after the last byte 10 are one more line
abbrev pub lines_of : List ℕ → List (List ℕ)
lines_of = lines_after []

-- the first line, and what follows the byte that ends it
abbrev pub next_line : List ℕ → Option (List ℕ × List ℕ)
next_line [] = None
next_line (b ∷ bs) = Some (take (prefix_len (differs 10) (b ∷ bs)) (b ∷ bs), drop 1 (drop (prefix_len (differs 10) (b ∷ bs)) (b ∷ bs)))

-- the first line and the lines that follow it are the lines of the bytes
abbrev pub Cuts : List ℕ → Option (List ℕ × List ℕ) → Type 0
Cuts bytes None = lines_of bytes ≡ []
Cuts bytes (Some p) =
    (length p.0 + length p.1 ≤ length bytes) × (length p.1 < length bytes) × (lines_of bytes ≡ p.0 ∷ lines_of p.1)

-- one record for each line: its offset, and its length without the byte that ends it
abbrev pub records_from : ℕ → List (List ℕ) → List Line
records_from at [] = []
records_from at (l ∷ ls) = record { offset = at; length = length l } ∷ records_from (at + length l + 1) ls

abbrev pub records_of : List ℕ → List Line
records_of bytes = records_from 0 (lines_of bytes)

-- the bytes that a record points to
abbrev pub line_text : List ℕ → Line → List ℕ
line_text bytes l = take l.length (drop l.offset bytes)

abbrev pub starts_with : List ℕ → List (List ℕ) → Bool
starts_with name [] = false
starts_with name (w ∷ ws) = bytes_eq w name

-- whether the first word of a line is the name, whole and as written
abbrev pub first_word_is : List ℕ → List ℕ → Bool
first_word_is name line = starts_with name (words_of line)
