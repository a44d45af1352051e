-- The lines that an iterator over a script has left.
use Rattle.std.specs.Prelude.{ℕ, List}
use Rattle.script.specs.declared.lines.Lines.{Lines}
use Rattle.script.specs.Lines.{lines_of}

abbrev pub lines_left : Lines → List (List ℕ)
lines_left s = lines_of s.rest.now
