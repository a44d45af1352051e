-- What the refusal of a name tells: its number.
use Rattle.std.specs.Prelude.{ℕ, Some, None, Ok, Err, Option, Result}
use Rattle.host.specs.declared.refusal.Refusal.{Refusal}
use Rattle.host.specs.declared.refusal.Refusal.TheVariants.{NotAName}

abbrev pub refusal_number : Refusal → ℕ
refusal_number NotAName = 16

-- the number of an answer that is a refusal
abbrev pub refused_with : {A : Type 0} → Result A Refusal → Option ℕ
refused_with (Ok x) = None
refused_with (Err e) = Some (refusal_number e)
