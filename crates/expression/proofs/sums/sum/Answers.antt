use Rattle.std.proofs.Common.{Some, ◌≡◌, ◌∙◌, ap, arith}
use Rattle.std.proofs.lemmas.Option.{MatchOption-at_some}
use Rattle.expression.specs.Items.{item_seen, items_in}
use Rattle.expression.specs.Sums.{sign_in, walk}
use Rattle.expression.proofs.Walks.{Sum, walk_more}
use Rattle.expression.proofs.sums.sum.Goals as goal

pub loop-sign-preserved : goal.loop-sign-preserved
loop-sign-preserved c =
    let sign : sign_in (item_seen c.in-Some.sign) ≡ Some c.in_ok-sign.sign = grind arith in
    let term : c.next-in-Some.result ≡ Some c.in_ok-term.term = grind arith in
    let behind = MatchOption-at_some _ _ _ term c.next-in-Some.ensures.steps in
    let more = walk_more _ _ _ _ _ _ _ _ c.in-Some.ensures.steps behind sign c.term_of.ensures in
    (tt, tt, ap (λ (t : Sum). walk t (items_in c.next-in-Some.new.self)) c.add-total.ensures ∙ more ∙ c.loop-sign.invariant.2)
