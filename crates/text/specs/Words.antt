-- The words of a line: what blanks separate.
use Rattle.std.specs.Prelude.{◌≡◌, ℕ, ◌+◌, ◌<◌, ◌≤◌, Bool, cond, not, List, [], ◌∷◌, ◌++◌, length, take, drop, Some, None, Option, ◌==◌}
use Rattle.std.specs.Borrow.{Bor}
use Rattle.std.specs.List.{prefix_len}

abbrev pub blank : ℕ → Bool
blank b = b == 32

-- a byte other than the one that ends a piece
abbrev pub differs : ℕ → ℕ → Bool
differs end b = not (b == end)

abbrev pub solid : ℕ → Bool
solid = differs 32

-- a piece that has begun goes first, unless it is empty
abbrev pub close : List ℕ → List (List ℕ) → List (List ℕ)
close [] ws = ws
close (b ∷ bs) ws = (b ∷ bs) ∷ ws

-- the words of what is left, after the bytes of the word that has begun
abbrev pub words_after : List ℕ → List ℕ → List (List ℕ)
words_after w [] = close w []
words_after w (b ∷ bs) = cond (blank b) (close w (words_after [] bs)) (words_after (w ++ b ∷ []) bs)

-- the words of a line, from left to right
abbrev pub words_of : List ℕ → List (List ℕ)
words_of = words_after []

-- a line from its first word on
abbrev pub after_blanks : List ℕ → List ℕ
after_blanks line = drop (prefix_len blank line) line

-- the first word of a line that starts with it, and all that follows
abbrev pub cut_word : List ℕ → Option (List ℕ × List ℕ)
cut_word [] = None
cut_word (b ∷ bs) = Some (take (prefix_len solid (b ∷ bs)) (b ∷ bs), drop (prefix_len solid (b ∷ bs)) (b ∷ bs))

-- the first word of a line and what follows it; none where the line is blank
abbrev pub next_word : List ℕ → Option (List ℕ × List ℕ)
next_word line = cut_word (after_blanks line)

-- what lent slices hold
abbrev pub parts : Option (Bor (List ℕ) × Bor (List ℕ)) → Option (List ℕ × List ℕ)
parts None = None
parts (Some p) = Some (p.0.now, p.1.now)

-- the first word and the words that follow it are the words of the line
abbrev pub Splits : List ℕ → Option (List ℕ × List ℕ) → Type 0
Splits line None = words_of line ≡ []
Splits line (Some p) = (0 < length p.0) × (length p.0 + length p.1 ≤ length line) × (words_of line ≡ p.0 ∷ words_of p.1)
