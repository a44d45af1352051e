-- The rules that every script keeps.
use Rattle.std.specs.Prelude.{ℕ, Bool, true, false, ◌&&◌, List, [], ◌∷◌, length, ◌==◌}
use Rattle.std.specs.Result.{is_ok}
use Rattle.script.specs.declared.line.Line.{Line}
use Rattle.script.specs.Lines.{records_of}
use Rattle.script.specs.Judgement.{judged}

abbrev pub same_records : List Line → List Line → Bool
same_records [] [] = true
same_records [] (y ∷ ys) = false
same_records (x ∷ xs) [] = false
same_records (x ∷ xs) (y ∷ ys) = (x.offset == y.offset && x.length == y.length) && same_records xs ys

-- Check would accept the bytes with room for so many records, and the records are theirs
abbrev pub sound : List ℕ → List Line → Bool
sound bytes lines = is_ok (judged bytes (length lines)) && same_records lines (records_of bytes)
