use Rattle.std.proofs.Common.{◌≡◌, ◌-◌, ◌++◌}
use Rattle.map.specs.Maps.{map_board}
use Rattle.console.specs.Boards.{grid_from}
use Rattle.console.specs.Pages.{page_text}
use Rattle.console.proofs.boards.write_grid.Given as goal

abbrev pub invariant-loop-row : goal.invariant-loop-row
invariant-loop-row l =
    page_text l.page ++ grid_from (map_board l.map) l.row (13 - l.row) ≡ page_text l.initial.page ++ grid_from (map_board l.map) 1 12
