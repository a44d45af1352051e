use Rattle.std.proofs.Common.{◌≡◌, ◌++◌, map, drop}
use Rattle.console.specs.Boards.{visible}
use Rattle.console.specs.Pages.{page_text}
use Rattle.console.proofs.boards.write_visible.Given as goal

abbrev pub invariant-loop-b : goal.invariant-loop-b
invariant-loop-b l =
    page_text l.page ++ map visible (drop l.b-index l.name) ≡ page_text l.initial.page ++ map visible l.name
