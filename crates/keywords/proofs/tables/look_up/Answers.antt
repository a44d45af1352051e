use Rattle.std.proofs.Common.{rules, tests}
use Rattle.std.specs.Str.{bytes_eq}
use Rattle.std.proofs.lemmas.Iterator.{YieldsList-from_slice}
use Rattle.std.proofs.lemmas.Iterator.Search.{find_from_yields_List}
use Rattle.keywords.proofs.Sieve.{value_tabled}
use Rattle.keywords.proofs.tables.look_up.Goals as goal

pub returns : goal.returns
returns g c =
    let found = find_from_yields_List (λ e. bytes_eq e.0.now c.args.name.now) _ _ c.find.result c.find.ensures.ran (YieldsList-from_slice c.args.table.now cc) (λ x b q k. search (rules, tests)) in
    value_tabled c.args.name.now c.args.table.now c.find.result c.map.result found c.map.ensures.cases (λ x k q. search (rules, tests))
