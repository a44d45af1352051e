-- The words of a list from a place on.
use Rattle.std.specs.Prelude.{List, drop}
use Rattle.language.specs.Texts.{Bytes}
use Rattle.words.specs.Listed.{listed}
use Rattle.expression.specs.declared.tail.Tail.{Tail}

unfoldable pub words_in : Tail → List Bytes
words_in t = drop t.at (listed t.words.now)
