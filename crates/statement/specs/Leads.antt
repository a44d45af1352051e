-- What a statement means whose first words have been judged.
use Rattle.std.specs.Prelude.{ℕ, List, [], ◌∷◌, Result}
use Rattle.machine.specs.Machines.{Line}
use Rattle.language.specs.Assignments.{assignment}
use Rattle.language.specs.Cores.{Core}
use Rattle.language.specs.Faults.{◌>>=◌, in_line}
use Rattle.language.specs.Orders.{obeyed, commanded}
use Rattle.language.specs.Reads.{reading}
use Rattle.language.specs.Statements.{Meaning, nothing_done, misplaced}
use Rattle.language.specs.Views.{order_seen}
use Rattle.language.specs.Words.{words_in, gathered}
use Rattle.language.specs.declared.life.Stop.{Stop}
use Rattle.substitution.specs.Scratches.{scratch_held}
use Rattle.substitution.specs.Writing.{word_seen, written_seen}
use Rattle.statement.specs.declared.lead.Lead.{Lead}
use Rattle.statement.specs.declared.lead.Lead.TheVariants.{Nothing, Misplaced, Assigns, Reads, Obeys, Commands}

abbrev pub lead_means : ℕ → Core → List Line → Lead → Meaning
lead_means line c st Nothing = nothing_done line c st
lead_means line c st (Misplaced ws) = misplaced line c st (written_seen ws)
lead_means line c st (Assigns w ws) = assignment line c (word_seen w) (written_seen ws)
lead_means line c st (Reads ws) = reading line c (written_seen ws)
lead_means line c st (Obeys o t ws) = gathered line (scratch_held t ∷ []) (words_in line c (written_seen ws)) >>= λ ts. in_line line (obeyed c st (order_seen o) ts)
lead_means line c st (Commands t ws) = gathered line (scratch_held t ∷ []) (words_in line c (written_seen ws)) >>= λ ts. in_line line (commanded c (scratch_held t) ts)

abbrev pub result_means : ℕ → Core → List Line → Result Lead Stop → Meaning
result_means line c st r = r >>= lead_means line c st
