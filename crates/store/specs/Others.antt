-- Setting a name changes no other.
use Rattle.std.specs.Prelude.{◌≡◌, true, ◌≢◌}
use Rattle.language.specs.Cores.{Core}
use Rattle.language.specs.Store.{value_of}
use Rattle.language.specs.Texts.{Bytes, has_ampersand}

-- every other name has the value that it had
abbrev pub OthersKept : Bytes → Core → Core → Type 0
OthersKept n was is = (m : Bytes) → has_ampersand m ≡ true → (m ≢ n) → value_of is m ≡ value_of was m
