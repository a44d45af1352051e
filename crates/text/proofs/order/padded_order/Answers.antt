use Rattle.std.proofs.Common.{◌≡◌, ℕ, get_or, refl, ap, ◌∙◌, arith, rules, tests}
use Rattle.std.specs.Iterator.Adapters.{map_source, map_callee}
use Rattle.std.specs.Ordering.{nat_cmp}
use Rattle.std.proofs.lemmas.Iterator.{YieldsList-from_range, YieldsList-from_map}
use Rattle.std.proofs.lemmas.Iterator.Search.{cmp_from_yields_List}
use Rattle.text.proofs.Padding.{padded_orders}
use Rattle.text.proofs.order.padded_order.Goals as goal

pub returns : goal.returns
returns c =
    let n : ℕ = c.max-n.result in
    cmp_from_yields_List (λ s it. it ≡ s) c.map-padded_w.result nat_cmp c.cmp.result c.cmp.ensures.ran
    (YieldsList-from_map _ (λ i. get_or c.args.v.now i 32) (YieldsList-from_range 0 n n (search rules) (omega arith)) refl (λ x r q k. search (rules, tests)))
    (λ it e. YieldsList-from_map _ (λ i. get_or c.args.w.now i 32) (YieldsList-from_range 0 n n (ap map_source e ∙ search rules) (omega arith)) (ap map_callee e) (λ x r q k. search (rules, tests)))
    (λ x y. refl)
    ∙ padded_orders c.args.v.now c.args.w.now n c.max-n.ensures
