-- Texts as their bytes, tables by name, and the limits of the language.
use Rattle.std.specs.Prelude.{ℕ, Bool, true, false, cond, List, [], ◌∷◌, ◌++◌, length, Some, None, Option, ◌==◌, nat_le}
use Rattle.std.specs.Str.{bytes_eq}

abbrev pub Bytes : Type 0
Bytes = List ℕ

-- a name, with its ampersand
abbrev pub longest_name : ℕ
longest_name = 32

-- a word, a value, a statement, a list of arguments
abbrev pub longest_text : ℕ
longest_text = 255

-- ordinary variables that are not null
abbrev pub most_variables : ℕ
most_variables = 64

abbrev pub most_stacked : ℕ
most_stacked = 32

abbrev pub most_calls : ℕ
most_calls = 8

-- a printed line
abbrev pub printed_width : ℕ
printed_width = 130

abbrev pub is_null : Bytes → Bool
is_null [] = true
is_null (b ∷ bs) = false

abbrev pub starts_with : ℕ → Bytes → Bool
starts_with byte [] = false
starts_with byte (b ∷ bs) = b == byte

-- what marks a name, a label and a comment
abbrev pub has_ampersand : Bytes → Bool
has_ampersand = starts_with 38

abbrev pub has_hyphen : Bytes → Bool
has_hyphen = starts_with 45

abbrev pub has_asterisk : Bytes → Bool
has_asterisk = starts_with 42

-- words joined by single blanks
abbrev pub behind_blanks : List Bytes → Bytes
behind_blanks [] = []
behind_blanks (w ∷ ws) = 32 ∷ (w ++ behind_blanks ws)

abbrev pub spaced : List Bytes → Bytes
spaced [] = []
spaced (w ∷ ws) = w ++ behind_blanks ws

-- whether the joined words are no longer than a text may be
abbrev pub fits : List Bytes → Bool
fits ws = nat_le (length (spaced ws)) longest_text

-- what a table has first for a name
abbrev pub tabled : {A : Type 0} → List (Bytes × A) → Bytes → Option A
tabled [] name = None
tabled (e ∷ es) name = cond (bytes_eq e.0 name) (Some e.1) (tabled es name)

-- a table that has the same for every name
abbrev pub all_as : {A : Type 0} → A → List Bytes → List (Bytes × A)
all_as a [] = []
all_as a (n ∷ ns) = (n, a) ∷ all_as a ns
