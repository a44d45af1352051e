use Rattle.std.proofs.Common.{◌≡◌, ◌≤◌, length}
use Rattle.store.specs.Stores.{core_seen}
use Rattle.substitution.specs.Writing.{written_seen}
use Rattle.statement.specs.Solid.{first_solid}
use Rattle.statement.proofs.solid.first_solid.Given as goal

abbrev pub invariant-loop-word : goal.invariant-loop-word
invariant-loop-word l =
    record { fewer : length (written_seen l.words) ≤ length (written_seen l.initial.words); is : first_solid l.reader.line (core_seen l.reader.store.now) (written_seen l.words) ≡ first_solid l.reader.line (core_seen l.reader.store.now) (written_seen l.initial.words) }
