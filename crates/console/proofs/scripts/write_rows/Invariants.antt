use Rattle.std.proofs.Common.{◌≡◌, ◌+◌, ◌++◌, drop}
use Rattle.console.specs.Texts.{rows_from}
use Rattle.console.specs.Pages.{page_text}
use Rattle.console.proofs.scripts.write_rows.Given as goal

abbrev pub invariant-loop-i : goal.invariant-loop-i
invariant-loop-i l =
    page_text l.page ++ rows_from l.bytes (l.i + 1) (drop l.i l.line-items) ≡ page_text l.initial.page ++ rows_from l.bytes 1 l.line-items
