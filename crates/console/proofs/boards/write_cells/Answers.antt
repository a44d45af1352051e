use Rattle.std.proofs.Common.{append_assoc, rules}
use Rattle.map.specs.Maps.{map_board}
use Rattle.console.proofs.Drawing.{cell_more}
use Rattle.console.proofs.boards.write_cells.Goals as goal

pub loop-column-preserved : goal.loop-column-preserved
loop-column-preserved c =
    let e = cell_more (map_board c.args.map.now) c.args.row c.loop-column.column c.loop-column-test.true in
    search (rules, append_assoc)
