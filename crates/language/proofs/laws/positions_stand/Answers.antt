use Rattle.std.proofs.Common.{refl}
use Rattle.language.specs.Trials.{stands}
use Rattle.language.proofs.laws.positions_stand.Goals as goal

pub returns : goal.returns
unfolding stands
returns c = refl
