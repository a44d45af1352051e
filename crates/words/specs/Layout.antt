-- How a list of words lies in memory: the length of each, and the bytes of each behind a blank.
use Rattle.std.specs.Prelude.{ℕ, Bool, ◌&&◌, List, [], ◌∷◌, map, length, take, drop}
use Rattle.std.specs.Str.{bytes_eq}
use Rattle.language.specs.Texts.{Bytes, behind_blanks}

-- the words of these lengths
abbrev pub cut_by : List ℕ → Bytes → List Bytes
cut_by [] t = []
cut_by (n ∷ ns) t = take n (drop 1 t) ∷ cut_by ns (drop n (drop 1 t))

-- whether the lengths and the bytes are those of a list of words
unfoldable pub laid : List ℕ → Bytes → Bool
laid ns t = bytes_eq ns (map length (cut_by ns t)) && bytes_eq t (behind_blanks (cut_by ns t))
