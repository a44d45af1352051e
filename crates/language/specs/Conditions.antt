-- Conditions: a word, a comparative and a word.
use Rattle.std.specs.Prelude.{Bool, List, [], ◌∷◌, Ok, Err, codes, Option, Result, slice_index_or}
use Rattle.std.specs.declared.cmp.Ordering.{Ordering}
use Rattle.std.specs.Option.{ok_or}
use Rattle.std.specs.Ordering.{is_eq, is_ne, is_lt, is_gt, is_le, is_ge}
use Rattle.text.specs.Order.{word_order}
use Rattle.language.specs.Texts.{Bytes, tabled}
use Rattle.language.specs.Faults.{◌>>=◌}
use Rattle.language.specs.declared.fault.StatementFault.{StatementFault}
use Rattle.language.specs.declared.fault.StatementFault.TheVariants.{Malformed}

pub data Comparative : Type 0 where
  equal unequal less not_less more not_more : Comparative

abbrev pub comparatives : List (Bytes × Comparative)
comparatives =
    (codes "=", equal) ∷ (codes "EQ", equal) ∷ (codes "^=", unequal) ∷ (codes "NE", unequal)
    ∷ (codes "<", less) ∷ (codes "LT", less) ∷ (codes "^<", not_less) ∷ (codes "NL", not_less)
    ∷ (codes ">", more) ∷ (codes "GT", more) ∷ (codes "^>", not_more) ∷ (codes "NG", not_more)
    ∷ (codes "<=", not_more) ∷ (codes "LE", not_more) ∷ (codes ">=", not_less) ∷ (codes "GE", not_less) ∷ []

unfoldable pub comparative_of : Bytes → Option Comparative
comparative_of = tabled comparatives

abbrev pub holds : Comparative → Ordering → Bool
holds equal o = is_eq o
holds unequal o = is_ne o
holds less o = is_lt o
holds not_less o = is_ge o
holds more o = is_gt o
holds not_more o = is_le o

-- whether a condition is so; without its second word, that one is null
abbrev pub condition_holds : List Bytes → Result Bool StatementFault
condition_holds [] = Err Malformed
condition_holds (v ∷ []) = Err Malformed
condition_holds (v ∷ (r ∷ ws)) = ok_or (comparative_of r) Malformed >>= λ q. Ok (holds q (word_order v (slice_index_or ws 0 [])))
