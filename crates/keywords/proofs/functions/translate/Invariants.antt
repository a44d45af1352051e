use Rattle.std.proofs.Common.{◌≡◌, map, take}
use Rattle.text.specs.Tables.{held}
use Rattle.keywords.proofs.Exchanges.{exchange}
use Rattle.keywords.proofs.functions.translate.Given as goal

abbrev pub invariant-loop-b : goal.invariant-loop-b
invariant-loop-b l = held l.made ≡ map (exchange l.from l.to) (take l.b-index l.b-items)
