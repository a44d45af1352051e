use Rattle.std.proofs.Common.{◌≡◌, ◌++◌, drop}
use Rattle.map.specs.Pieces.{board_of}
use Rattle.console.specs.Boards.{legend_from}
use Rattle.console.specs.Pages.{page_text}
use Rattle.console.proofs.boards.write_legend.Given as goal

abbrev pub invariant-loop-i : goal.invariant-loop-i
invariant-loop-i l =
    page_text l.page ++ legend_from l.i (board_of (drop l.i l.piece-items)) ≡ page_text l.initial.page ++ legend_from 0 (board_of l.piece-items)
