use Rattle.std.proofs.Common.{◌≡◌}
use Rattle.language.specs.Words.{words_in}
use Rattle.store.specs.Stores.{core_seen}
use Rattle.substitution.specs.Gathering.{gathering, words_into}
use Rattle.substitution.specs.Writing.{written_seen}
use Rattle.substitution.proofs.reader.Reader.take_all.Given as goal

abbrev pub invariant-loop-word : goal.invariant-loop-word
invariant-loop-word l =
    words_into (gathering l.into) (words_in l.self.line (core_seen l.self.store.now) (written_seen l.word-iterator))
    ≡ words_into (gathering l.initial.into) (words_in l.self.line (core_seen l.self.store.now) (written_seen l.words))
