use Rattle.std.proofs.Common.{◌≡◌, ◌-◌, ◌++◌}
use Rattle.map.specs.Maps.{map_board}
use Rattle.console.specs.Boards.{cells_from}
use Rattle.console.specs.Pages.{page_text}
use Rattle.console.proofs.boards.write_cells.Given as goal

abbrev pub invariant-loop-column : goal.invariant-loop-column
invariant-loop-column l =
    page_text l.page ++ cells_from (map_board l.map) l.row l.column (13 - l.column) ≡ page_text l.initial.page ++ cells_from (map_board l.map) l.row 1 12
