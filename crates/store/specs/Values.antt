-- What a value kept stands for.
use Rattle.std.specs.Prelude.{Some, None, decimal, Option}
use Rattle.std.specs.Fmt.{signed_decimal}
use Rattle.text.specs.Shorts.{short_bytes}
use Rattle.language.specs.Texts.{Bytes as Text}
use Rattle.store.specs.declared.value.Value.{Value}
use Rattle.store.specs.declared.value.Value.TheVariants.{Bytes, Own, Count, Code, Absent}

-- the value of a name; none where it is not carried
abbrev pub value_seen : Text → Value → Option Text
value_seen name (Bytes b) = Some (short_bytes b)
value_seen name Own = Some name
value_seen name (Count n) = Some (decimal n)
value_seen name (Code z) = Some (signed_decimal z)
value_seen name Absent = None
