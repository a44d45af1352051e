use Rattle.std.proofs.Common.{◌≡◌, List, length}
use Rattle.machine.specs.Machines.{Line}
use Rattle.language.specs.Statements.{statement}
use Rattle.store.specs.Stores.{core_seen}
use Rattle.substitution.specs.Writing.{written_seen}
use Rattle.statement.proofs.leading.find_lead.Given as goal

abbrev pub invariant-loop-lead : goal.invariant-loop-lead
invariant-loop-lead l =
    (st : List Line) → statement l.reader.line (core_seen l.reader.store.now) st (written_seen l.words) ≡ statement l.reader.line (core_seen l.reader.store.now) st (written_seen l.initial.words)

abbrev pub decreases-loop-lead : goal.decreases-loop-lead
decreases-loop-lead l = length (written_seen l.words)
