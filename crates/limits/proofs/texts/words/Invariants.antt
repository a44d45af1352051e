use Rattle.std.proofs.Common.{◌+◌, ◌≤◌, length}
use Rattle.limits.proofs.texts.words.Given as goal

abbrev pub invariant-loop-word : goal.invariant-loop-word
invariant-loop-word l = l.count + length l.rest ≤ length l.line

abbrev pub decreases-loop-word : goal.decreases-loop-word
decreases-loop-word l = length l.rest
