-- The view of a short slice.
use Rattle.std.specs.Prelude.{ℕ, List}
use Rattle.text.specs.declared.short.Short.{Short}

abbrev pub short_bytes : Short → List ℕ
short_bytes s = s.bytes.now
