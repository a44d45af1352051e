use Rattle.std.proofs.Common.{◌≡◌, ◌++◌}
use Rattle.script.specs.Lines.{lines_of}
use Rattle.script.specs.Rest.{lines_left}
use Rattle.map.specs.Maps.{map_board}
use Rattle.console.specs.Boards.{answers_from, board_on}
use Rattle.console.specs.Pages.{page_text}
use Rattle.console.proofs.boards.write_answers.Given as goal

abbrev pub invariant-loop-order : goal.invariant-loop-order
invariant-loop-order l =
    record {
      text : page_text l.page ++ answers_from (map_board l.map) (lines_left l.order-iterator) ≡ page_text l.initial.page ++ answers_from (map_board l.initial.map) (lines_of l.orders);
      board : board_on (map_board l.map) (lines_left l.order-iterator) ≡ board_on (map_board l.initial.map) (lines_of l.orders);
    }
