use Rattle.std.proofs.Common.{◌≡◌, ◌++◌}
use Rattle.text.specs.Tables.{held}
use Rattle.language.specs.Functions.{concatenated}
use Rattle.expression.specs.Tails.{words_in}
use Rattle.expression.proofs.calls.concatenate.Given as goal

abbrev pub invariant-loop-word : goal.invariant-loop-word
invariant-loop-word l = held l.value ++ concatenated (words_in l.word-iterator) ≡ concatenated (words_in l.fn.words)
