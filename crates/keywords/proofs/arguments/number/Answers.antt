use Rattle.std.proofs.Common.{◌+◌, ◌-◌, ◌*◌, get_or, drop, arith}
use Rattle.std.proofs.lemmas.Grind.{common_steps}
use Rattle.keywords.proofs.Capped.{early}
use Rattle.keywords.proofs.arguments.number.Goals as goal

pub loop-b-preserved : goal.loop-b-preserved
loop-b-preserved c =
    let bs = c.args.digits.now in
    let i = c.loop-b.b-index in (
      omega arith,
      grind (arith, common_steps, early (c.loop-b.n * 10 + (get_or bs i 0 - 48)) (drop (i + 1) bs)),
    )
