use Rattle.machine.proofs.Compared.{compared}
use Rattle.machine.proofs.laws.courses_compare.Goals as goal

pub returns : goal.returns
returns g c = λ M width. compared M width
