-- A value in its place in a word.
use Rattle.std.specs.Prelude.{ℕ, ◌+◌, length, Ok, Result, nat_le}
use Rattle.language.specs.Faults.{◌>>◌, must}
use Rattle.language.specs.Texts.{Bytes, longest_text}
use Rattle.language.specs.declared.fault.WordFault.{WordFault}
use Rattle.language.specs.declared.fault.WordFault.TheVariants.{WordTooLong}

-- with so many bytes to the left of it
abbrev pub within : ℕ → Bytes → Result Bytes WordFault
within left value = must (nat_le (left + length value) longest_text) WordTooLong >> Ok value
