use Rattle.std.proofs.Common.{◌∙◌}
use Rattle.script.specs.Lines.{lines_of}
use Rattle.map.specs.Maps.{map_board}
use Rattle.console.specs.Pages.{page_text}
use Rattle.console.proofs.Drawing.{played}
use Rattle.console.proofs.boards.orders.Goals as goal

pub returns : goal.returns
returns c =
    let answers = c.in_ok-write_answers.ensures in
    c.into_bytes.ensures
    ∙ played (page_text c.new-page.result) (page_text c.write_answers.new.page) _ (lines_of c.args.input.now) (map_board c.new-map.result) (map_board c.write_answers.new.map)
    c.new-page.ensures c.new-map.ensures.empty answers.0 answers.1 c.in_ok-write_board.ensures
