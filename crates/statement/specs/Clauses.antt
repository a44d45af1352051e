-- The words of a clause: some that are not null, and the words after them.
use Rattle.std.specs.Prelude.{ℕ, zero, suc, Bool, cond, List, [], ◌∷◌, Some, None, Ok, Option, Result}
use Rattle.language.specs.Cores.{Core}
use Rattle.language.specs.Faults.{◌>>=◌}
use Rattle.machine.specs.Machines.{Line}
use Rattle.language.specs.Statements.{Meaning, nothing_done, statement}
use Rattle.language.specs.Texts.{Bytes}
use Rattle.language.specs.Words.{Word}
use Rattle.language.specs.declared.life.Stop.{Stop}
use Rattle.substitution.specs.Gathering.{grown_all}
use Rattle.statement.specs.Solid.{first_solid}

-- words taken, and those left
abbrev pub Cut : Type 0
Cut = List Bytes × List Word

abbrev pub before : Bytes → Result Cut Stop → Result Cut Stop
before t cut = cut >>= λ p. Ok (t ∷ p.0, p.1)

abbrev pub clause_from : Option Bytes → List Word → (List Word → Result Cut Stop) → Result Cut Stop
clause_from None ws more = Ok ([], ws)
clause_from (Some t) ws more = before t (more ws)

-- at most so many words that are not null
unfoldable pub clause_of : ℕ → Core → ℕ → List Word → Result Cut Stop
clause_of line c zero ws = Ok ([], ws)
clause_of line c (suc n) ws = first_solid line c ws >>= λ p. clause_from p.0 p.1 (clause_of line c n)

-- what a call leaves that gathers the words
abbrev pub Gatherings : Type 0
Gatherings = Result (Option (List Bytes) × List Word) Stop

abbrev pub clauses_behind : Option (List Bytes) → Result Cut Stop → Gatherings
clauses_behind o cut = cut >>= λ p. Ok (grown_all o p.0, p.1)

-- what an &IF means whose clause a call has judged, with the words behind the clause
abbrev pub whether_means : ℕ → Core → List Line → Result Bool Stop → List Word → Meaning
whether_means line c st judged ws = judged >>= λ holds. cond holds (statement line c st ws) (nothing_done line c st)
