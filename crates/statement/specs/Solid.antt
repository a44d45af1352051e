-- The first of some words that is not null, and the words after it.
use Rattle.std.specs.Prelude.{ℕ, cond, List, [], ◌∷◌, Some, None, Ok, Option, Result, option_map}
use Rattle.language.specs.Cores.{Core}
use Rattle.language.specs.Faults.{◌>>=◌}
use Rattle.language.specs.Texts.{Bytes, is_null}
use Rattle.language.specs.Words.{Word, word_of}
use Rattle.language.specs.declared.life.Stop.{Stop}
use Rattle.substitution.specs.Scratches.{scratch_held}
use Rattle.substitution.specs.declared.scratch.Scratch.{Scratch}

abbrev pub Solid : Type 0
Solid = Result (Option Bytes × List Word) Stop

module _ (line : ℕ) (c : Core) where
  abbrev pub first_solid : List Word → Solid
  first_solid [] = Ok (None, [])
  first_solid (w ∷ ws) = word_of line c w >>= λ t. cond (is_null t) (first_solid ws) (Ok (Some t, ws))

-- what a call finds, with the words that it leaves
abbrev pub found_in : Result (Option Scratch) Stop → List Word → Solid
found_in found ws = found >>= λ text. Ok (option_map scratch_held text, ws)
