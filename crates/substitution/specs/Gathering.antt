-- The words of a statement while they are gathered: none once they do not fit.
use Rattle.std.specs.Prelude.{cond, List, [], ◌∷◌, ◌++◌, Some, None, Ok, Err, Option, Result, option_map}
use Rattle.language.specs.Faults.{◌>>=◌}
use Rattle.language.specs.Texts.{Bytes, is_null, fits}
use Rattle.words.specs.Listed.{listed}
use Rattle.words.specs.declared.words.Words.{Words}
use Rattle.substitution.specs.declared.gathered.Gathered.{Gathered}

abbrev pub gathering : Gathered → Option (List Bytes)
gathering g = option_map listed g.words

-- one word more
abbrev pub grown : Option (List Bytes) → Bytes → Option (List Bytes)
grown None t = None
grown (Some ts) t = cond (fits (ts ++ t ∷ [])) (Some (ts ++ t ∷ [])) None

abbrev pub grown_all : Option (List Bytes) → List Bytes → Option (List Bytes)
grown_all o [] = o
grown_all o (t ∷ ts) = grown_all (grown o t) ts

-- one word more, unless it is null
abbrev pub grown_by : Option (List Bytes) → Bytes → Option (List Bytes)
grown_by o t = cond (is_null t) o (grown o t)

abbrev pub taken_into : {F : Type 0} → Option (List Bytes) → Result Bytes F → Result (Option (List Bytes)) F
taken_into o word = word >>= λ t. Ok (grown_by o t)

abbrev pub words_into : {F : Type 0} → Option (List Bytes) → Result (List Bytes) F → Result (Option (List Bytes)) F
words_into o words = words >>= λ ts. Ok (grown_all o ts)

abbrev pub listed_of : {F : Type 0} → Result Words F → Result (List Bytes) F
listed_of (Ok w) = Ok (listed w)
listed_of (Err f) = Err f

-- what is meant, behind the words that were there
abbrev pub behind : {F : Type 0} → List Bytes → Result (List Bytes) F → Result (List Bytes) F
behind front meant = meant >>= λ ts. Ok (front ++ ts)
