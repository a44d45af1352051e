use Rattle.std.proofs.Common.{◌≡◌, Some, sym, ap, ◌∙◌}
use Rattle.text.specs.Tables.{held}
use Rattle.map.specs.Boards.{place_of}
use Rattle.map.specs.Maps.{map_board}
use Rattle.map.proofs.Carried.{taken}
use Rattle.map.proofs.map.Grid.take.Goals as goal

pub returns : goal.returns
returns g c =
    let p : place_of (held c.args.name) (map_board c.args.self.now) ≡ Some c.in-Some.i = ap (λ n. place_of n (map_board c.args.self.now)) (sym c.as_slice.ensures.is) ∙ sym c.in-Some.ensures.is in
    rw p (taken c.args.self.now _ c.in-Some.i c.remove.ensures)
