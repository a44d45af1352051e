use Rattle.std.proofs.Common.{arith, w32, rules}
use Rattle.std.proofs.lemmas.Int.{to_z-of_z}
use Rattle.expression.proofs.Walks.{sum_is}
use Rattle.expression.proofs.right_side.evaluate.Goals as goal

pub returns : goal.returns
returns c = grind (arith, sum_is, to_z-of_z w32 c.in_ok-sum.field-0 (search rules))
