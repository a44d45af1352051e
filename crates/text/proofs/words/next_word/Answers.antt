use Rattle.std.proofs.Common.{Some, None, arith}
use Rattle.std.proofs.lemmas.Grind.{common_steps}
use Rattle.text.proofs.Splits.{splits_by}
use Rattle.text.proofs.words.next_word.Goals as goal

pub returns-then-is_empty-clause-splits : goal.returns-then-is_empty-clause-splits
returns-then-is_empty-clause-splits c = splits_by c.args.line.now None (grind (arith, common_steps))

pub returns-clause-splits : goal.returns-clause-splits
returns-clause-splits c = splits_by c.args.line.now (Some (c.split_at.result.0.now, c.split_at.result.1.now)) (grind (arith, common_steps))
