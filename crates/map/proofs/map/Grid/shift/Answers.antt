use Rattle.std.proofs.Common.{◌≡◌, pos, Some, sym, ap, ◌∙◌}
use Rattle.text.specs.Tables.{held}
use Rattle.map.specs.Boards.{place_of, holder_of}
use Rattle.map.specs.Maps.{map_board}
use Rattle.map.proofs.Carried.{moved}
use Rattle.map.proofs.map.Grid.shift.Goals as goal

pub returns : goal.returns
returns g c =
    let p : place_of (held c.args.piece.name) (map_board c.args.self.now) ≡ Some c.in-Some.i = ap (λ n. place_of n (map_board c.args.self.now)) (sym c.as_slice.ensures.is) ∙ sym c.in-Some.ensures.is in
    let q : holder_of (pos c.args.piece.square.row) (pos c.args.piece.square.column) (map_board c.args.self.now) ≡ c.holder.result = sym c.holder.ensures.is in
    rw (p, q) (moved c.args.self.now _ _ c.in-Some.i c.holder.result c.replace.ensures c.if-is_other.ensures)
