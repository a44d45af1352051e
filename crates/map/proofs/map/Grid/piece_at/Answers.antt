use Rattle.std.proofs.Common.{ℕ, Some, ap, ◌∙◌}
use Rattle.std.specs.Option.{option_map}
use Rattle.std.proofs.lemmas.Int.{to_z-of_z}
use Rattle.map.specs.Maps.{map_board}
use Rattle.map.specs.Pieces.{stand_of}
use Rattle.map.proofs.Naming.{named_here, unnamed, told_at, placed_name}
use Rattle.map.proofs.map.Grid.piece_at.Goals as goal

pub returns-in_err-i : goal.returns-in_err-i
returns-in_err-i g c =
    let row_fits = c.ranges.row in
    let column_fits = c.ranges.column in
    let on = simp to_z-of_z at c.in_ok-square.ensures in
    let r : ℕ = c.in_ok-square.field-0.row in
    let q : ℕ = c.in_ok-square.field-0.column in
    ap (option_map (λ x. x.now)) c.from_residual-in_err-i.ensures
    ∙ told_at g.row.SIDE c.args.row c.args.column r q (map_board c.args.self.now) _ on.0 on.1 on.2 (unnamed r q 0 (map_board c.args.self.now) c.in_err-i.ensures.is)

pub returns : goal.returns
returns g c =
    let row_fits = c.ranges.row in
    let column_fits = c.ranges.column in
    let on = simp to_z-of_z at c.in_ok-square.ensures in
    let r : ℕ = c.in_ok-square.field-0.row in
    let q : ℕ = c.in_ok-square.field-0.column in
    told_at g.row.SIDE c.args.row c.args.column r q (map_board c.args.self.now) _ on.0 on.1 on.2
    (ap Some (placed_name _ _ c.in_ok-i.i c.index-pieces-i.result _ c.pieces.ensures.is c.as_slice.ensures.is c.in_ok-i.ensures.within)
    ∙ named_here r q (stand_of c.index-pieces-i.result) (map_board c.args.self.now) c.in_ok-i.i c.in_ok-i.ensures.is)
