-- The view of a scratch text.
use Rattle.std.specs.Prelude.{◌-◌, drop, Ok, Err, Result}
use Rattle.language.specs.Texts.{Bytes}
use Rattle.substitution.specs.declared.scratch.Scratch.{Scratch}

abbrev pub scratch_held : Scratch → Bytes
scratch_held s = drop (255 - s.len) s.bytes

abbrev pub held_in : {F : Type 0} → Result Scratch F → Result Bytes F
held_in (Ok s) = Ok (scratch_held s)
held_in (Err f) = Err f
