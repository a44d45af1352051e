-- The words of a line with their numbers, and the names in them replaced by their values.
use Rattle.std.specs.Prelude.{ℕ, ◌+◌, cond, List, [], ◌∷◌, ◌++◌, length, Ok, Result, ◌==◌, nat_le}
use Rattle.std.specs.Option.{ok_or}
use Rattle.text.specs.Words.{close, words_of}
use Rattle.language.specs.Texts.{Bytes, fits, longest_name, longest_text}
use Rattle.language.specs.Faults.{◌>>=◌, ◌>>◌, must, by_statement, in_word, in_line}
use Rattle.language.specs.Cores.{Core}
use Rattle.language.specs.Store.{value_of}
use Rattle.language.specs.declared.fault.WordFault.{WordFault}
use Rattle.language.specs.declared.fault.WordFault.TheVariants.{NameTooLong, WordTooLong, NotCarried}
use Rattle.language.specs.declared.fault.StatementFault.TheVariants.{TooLong}
use Rattle.language.specs.declared.life.Stop.{Stop}

-- a word as written, with its number in the line, counted from 1
pub record Word : Type 0 where
  pub number : ℕ
  pub written : Bytes

abbrev pub numbered_from : ℕ → List Bytes → List Word
numbered_from k [] = []
numbered_from k (w ∷ ws) = record { number = k; written = w } ∷ numbered_from (k + 1) ws

abbrev pub written_words : Bytes → List Word
written_words line = numbered_from 1 (words_of line)

-- the value that takes the place of a name, with so many bytes to the left of it
abbrev pub replaced : Core → ℕ → Bytes → Result Bytes WordFault
replaced c left name = do
  must (nat_le (length name) longest_name) NameTooLong
  value ← ok_or (value_of c name) NotCarried
  must (nat_le (left + length value) longest_text) WordTooLong
  Ok value

-- what stands to the right is read first; an ampersand makes a name of it
abbrev pub substituted : Core → ℕ → Bytes → Result Bytes WordFault
substituted c left [] = Ok []
substituted c left (b ∷ bs) =
    substituted c (left + 1) bs >>= λ right. cond (b == 38) (replaced c left (b ∷ right)) (Ok (b ∷ right))

-- the first byte of a target stays, and the whole is a name
abbrev pub named : Core → Bytes → Result Bytes WordFault
named c [] = Ok []
named c (b ∷ bs) = do
  right ← substituted c 1 bs
  must (nat_le (length (b ∷ right)) longest_name) NameTooLong
  Ok (b ∷ right)

module _ (line : ℕ) (c : Core) where
  abbrev pub word_of : Word → Result Bytes Stop
  word_of w = in_word line w.number (substituted c 0 w.written)

  abbrev pub target_of : Word → Result Bytes Stop
  target_of w = in_word line w.number (named c w.written)

  -- the leftmost fault comes first; words that become null drop out
  abbrev pub words_in : List Word → Result (List Bytes) Stop
  words_in [] = Ok []
  words_in (w ∷ ws) = do
    t ← word_of w
    ts ← words_in ws
    Ok (close t ts)

-- the words of a statement behind those that it has already: after their own faults, the statement may be too long
abbrev pub gathered : ℕ → List Bytes → Result (List Bytes) Stop → Result (List Bytes) Stop
gathered line front words = do
  ts ← words
  in_line line (by_statement (must (fits (front ++ ts)) TooLong))
  Ok ts
