use Rattle.map.proofs.Orderly.{stays_orderly}
use Rattle.map.proofs.map.methods.Map.new.Goals as goal

pub returns-clause-orderly : goal.returns-clause-orderly
returns-clause-orderly c = stays_orderly
