use Rattle.std.proofs.Common.{◌≡◌, eqb, ◌∙◌, rules, tests}
use Rattle.std.proofs.lemmas.Iterator.{YieldsList-from_slice}
use Rattle.std.proofs.lemmas.Iterator.Search.{position_from_yields_List}
use Rattle.text.specs.Search.{first_from}
use Rattle.keywords.proofs.Exchanges.{position-first_from}
use Rattle.keywords.proofs.functions.exchanged.Goals as goal

pub returns : goal.returns
returns c =
    let place : c.position.result ≡ first_from (λ x. eqb x c.args.b) 0 c.args.from.now = position_from_yields_List (λ x. eqb x c.args.b) _ _ _ c.position.ensures.ran (YieldsList-from_slice c.args.from.now cc) (λ x b q k. search (rules, tests)) ∙ position-first_from (λ x. eqb x c.args.b) c.args.from.now in
    search rules
