use Rattle.std.proofs.Common.{◌≡◌, ◌++◌, length}
use Rattle.text.specs.Shorts.{short_bytes}
use Rattle.text.specs.Words.{words_of}
use Rattle.words.specs.Listed.{listed}
use Rattle.words.proofs.words.Words.of_line.Given as goal

abbrev pub invariant-loop-word : goal.invariant-loop-word
invariant-loop-word l = listed l.words ++ words_of l.rest ≡ words_of (short_bytes l.fn.line)

abbrev pub decreases-loop-word : goal.decreases-loop-word
decreases-loop-word l = length l.rest
