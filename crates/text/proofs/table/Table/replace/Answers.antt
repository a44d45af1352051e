use Rattle.std.proofs.Common.{arith, length-take}
use Rattle.std.proofs.Math.Seq.{take-set-lt}
use Rattle.text.proofs.table.Table.replace.Goals as goal

pub returns : goal.returns
returns g c =
    let h = simp length-take at c.requires in
    take-set-lt c.args.self.now.len c.args.self.now.items c.args.i c.args.item (omega (arith, h))
