use Rattle.std.proofs.Common.{◌≡◌, length, arith, length-take}
use Rattle.text.proofs.Tables.{rotated}
use Rattle.text.proofs.table.Table.remove.Goals as goal

pub returns : goal.returns
returns g c =
    let n : length c.args.self.now.items ≡ g.row.N = search in
    let h = simp length-take at c.requires in
    rotated c.args.self.now.items c.args.self.now.len c.args.i c.rotate_left.new.self (omega (arith, n, c.args.self.now.fits)) (omega (arith, h)) c.rotate_left.ensures.after
