use Rattle.std.proofs.Common.{sym, ◌∙◌}
use Rattle.store.specs.Stores.{core_seen}
use Rattle.substitution.specs.Gathering.{gathering}
use Rattle.substitution.specs.Writing.{word_seen, written_seen}
use Rattle.substitution.proofs.Growing.{one_taken}
use Rattle.substitution.proofs.reader.Reader.take_all.Goals as goal

pub loop-word-preserved : goal.loop-word-preserved
loop-word-preserved c =
    sym (one_taken (gathering c.loop-word.into) (gathering c.take.new.into) c.args.self.line (core_seen c.args.self.store.now) (written_seen c.loop-word.word-iterator)
    (word_seen c.in-Some.word) (written_seen c.next.new.self) c.in-Some.ensures.steps c.in_ok-take.ensures)
    ∙ c.loop-word.invariant
