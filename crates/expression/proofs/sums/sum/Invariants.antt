use Rattle.std.proofs.Common.{◌≡◌}
use Rattle.language.specs.Assignments.{yields}
use Rattle.expression.specs.Calls.{stated}
use Rattle.expression.specs.Items.{item_seen, items_in}
use Rattle.expression.specs.Sums.{term_of, walk}
use Rattle.expression.proofs.sums.sum.Given as goal

abbrev pub invariant-loop-sign : goal.invariant-loop-sign
invariant-loop-sign l =
    (goal.iterator-loop-sign).can_next l.items
    × (goal.iterator-loop-sign).is_finite l.items
    × (walk l.total (items_in l.items) ≡ walk (stated (term_of (yields (item_seen l.fn.item)))) (items_in l.fn.items))
