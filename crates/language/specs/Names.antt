-- Names: what a name, with its ampersand, stands for.
use Rattle.std.specs.Prelude.{ℕ, cond, List, [], ◌∷◌, ◌++◌, drop, Some, None, codes, Option}
use Rattle.std.specs.Option.{unwrap_or}
use Rattle.text.specs.Numbers.{magnitude_of}
use Rattle.language.specs.Texts.{Bytes, starts_with, tabled, all_as}

-- the variables that the engine keeps
pub data KeptName : Type 0 where
  ampersand string blank coline depth from count line link code : KeptName

pub data Kind : Type 0 where
  -- kept by the engine
  kept : KeptName → Kind
  -- a control word or a function, whose value is its own name
  own : Kind
  -- not carried, so that it has no value
  absent : Kind
  -- an argument, counted from 1
  argument : ℕ → Kind
  ordinary : Kind

abbrev pub kept_names : List (Bytes × Kind)
kept_names =
    (codes "&", kept ampersand) ∷ (codes "&ARGSTRING", kept string) ∷ (codes "&BLANK", kept blank)
    ∷ (codes "&COLINE", kept coline) ∷ (codes "&DEPTH", kept depth) ∷ (codes "&FROM", kept from)
    ∷ (codes "&INDEX", kept count) ∷ (codes "&LINE", kept line) ∷ (codes "&LINENUM", kept line)
    ∷ (codes "&LINK", kept link) ∷ (codes "&N", kept count) ∷ (codes "&RC", kept code)
    ∷ (codes "&RETCODE", kept code) ∷ []

-- the control words of EXEC 2, those that are not carried too
abbrev pub control_names : List Bytes
control_names =
    codes "&ARGS" ∷ codes "&BEGPRINT" ∷ codes "&BEGSTACK" ∷ codes "&BEGTYPE" ∷ codes "&BUFFER" ∷ codes "&CALL"
    ∷ codes "&CASE" ∷ codes "&COMMAND" ∷ codes "&DUMP" ∷ codes "&ERROR" ∷ codes "&EXIT" ∷ codes "&GOTO" ∷ codes "&IF"
    ∷ codes "&LOOP" ∷ codes "&PRESUME" ∷ codes "&PRINT" ∷ codes "&READ" ∷ codes "&RETURN" ∷ codes "&SKIP" ∷ codes "&STACK"
    ∷ codes "&SUBCOMMAND" ∷ codes "&TRACE" ∷ codes "&TRUNC" ∷ codes "&TYPE" ∷ codes "&UPPER" ∷ []

abbrev pub function_names : List Bytes
function_names =
    codes "&CONCAT" ∷ codes "&CONCATENATION" ∷ codes "&LENGTH" ∷ codes "&TRANS" ∷ codes "&TRANSLATION" ∷ codes "&TRIM"
    ∷ codes "&WORD" ∷ []

abbrev pub absent_names : List Bytes
absent_names =
    codes "&0" ∷ codes "&DATE" ∷ codes "&FILEMODE" ∷ codes "&FILENAME" ∷ codes "&FILETYPE" ∷ codes "&TIME" ∷ []

abbrev pub known_names : List (Bytes × Kind)
known_names =
    kept_names ++ (all_as own control_names ++ (all_as own function_names ++ all_as absent absent_names))

-- the number of an argument: digits without a sign or a leading zero
abbrev pub index_of : Bytes → Option ℕ
index_of digits = cond (starts_with 48 digits) None (magnitude_of digits)

abbrev pub numbered_or : Kind → Option ℕ → Kind
numbered_or other None = other
numbered_or other (Some j) = argument j

unfoldable pub kind_of : Bytes → Kind
kind_of name = unwrap_or (tabled known_names name) (numbered_or ordinary (index_of (drop 1 name)))
