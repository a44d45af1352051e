-- The words of a line as they are written.
use Rattle.std.specs.Prelude.{List}
use Rattle.text.specs.Shorts.{short_bytes}
use Rattle.text.specs.Words.{words_of}
use Rattle.language.specs.Words as words
use Rattle.language.specs.Words.{numbered_from}
use Rattle.substitution.specs.declared.written.Word.{Word}
use Rattle.substitution.specs.declared.written.Written.{Written}

abbrev pub word_seen : Word → words.Word
word_seen w = record { number = w.number; written = short_bytes w.bytes }

abbrev pub written_seen : Written → List words.Word
written_seen w = numbered_from w.number (words_of w.rest.now)
