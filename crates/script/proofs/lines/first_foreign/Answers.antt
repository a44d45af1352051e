use Rattle.std.proofs.Common.{rules}
use Rattle.std.proofs.lemmas.Iterator.Consumers.{YieldsList-from_first}
use Rattle.std.proofs.lemmas.Iterator.Search.{position_from_yields_List}
use Rattle.script.specs.Judgement.{foreign}
use Rattle.script.specs.Rest.{lines_left}
use Rattle.script.proofs.lines.first_foreign.Goals as goal

pub returns : goal.returns
returns c =
    let e = position_from_yields_List foreign c.position.new.self _ c.position.result c.position.ensures.ran (YieldsList-from_first (λ x. x.now) lines_left _ c.new.ensures.is) (λ x b q k. search rules) in
    search rules
