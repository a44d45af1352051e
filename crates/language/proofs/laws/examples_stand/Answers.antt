use Rattle.std.proofs.Common.{refl}
use Rattle.language.specs.Examples.{asked}
use Rattle.language.specs.Trials.{stands}
use Rattle.language.proofs.laws.examples_stand.Goals as goal

pub returns : goal.returns
unfolding stands asked
returns c = record { statements = refl; functions = refl; stops = refl; refusals = refl }
