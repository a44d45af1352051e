use Rattle.language.proofs.Scenarios.{scenarios_compare_lem}
use Rattle.language.proofs.laws.scenarios_compare.Goals as goal

pub returns : goal.returns
returns c = scenarios_compare_lem
