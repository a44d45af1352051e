-- What one turn finds of a statement.
use Rattle.std.specs.Prelude.{ℕ, ◌<◌, List, [], length, Ok, Err, Result}
use Rattle.machine.specs.Machines.{Line}
use Rattle.language.specs.Cores.{Core}
use Rattle.language.specs.Statements.{Meaning, clause}
use Rattle.language.specs.Words.{Word}
use Rattle.language.specs.declared.life.Stop.{Stop}
use Rattle.substitution.specs.Writing.{written_seen}
use Rattle.statement.specs.Leads.{lead_means}
use Rattle.statement.specs.declared.turn.Turn.{Turn}
use Rattle.statement.specs.declared.turn.Turn.TheVariants.{Leads, Tests}

abbrev pub turn_means : ℕ → Core → List Line → Result Turn Stop → Meaning
turn_means line c st (Ok (Leads l)) = lead_means line c st l
turn_means line c st (Ok (Tests ws)) = clause line c st [] (written_seen ws)
turn_means line c st (Err s) = Err s

-- the words of an &IF are fewer than all
abbrev pub TestsFewer : List Word → Turn → Type 0
TestsFewer all (Leads l) = Unit {0}
TestsFewer all (Tests ws) = length (written_seen ws) < length all
