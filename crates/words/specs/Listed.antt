-- The view of a list of words.
use Rattle.std.specs.Prelude.{List}
use Rattle.text.specs.Tables.{held}
use Rattle.language.specs.Texts.{Bytes}
use Rattle.words.specs.Layout.{cut_by}
use Rattle.words.specs.declared.words.Words.{Words}

unfoldable pub listed : Words → List Bytes
listed w = cut_by (held w.lengths) (held w.text)
