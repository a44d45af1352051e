use Rattle.std.proofs.Common.{refl}
use Rattle.machine.proofs.laws.answers_stand.Goals as goal

pub returns : goal.returns
returns c = (refl, refl, refl, refl, refl, refl)
