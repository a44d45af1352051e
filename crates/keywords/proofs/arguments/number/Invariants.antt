use Rattle.std.proofs.Common.{◌≡◌, ◌≤◌, drop}
use Rattle.text.specs.Numbers.{digits_after}
use Rattle.keywords.specs.Arguments.{largest_index, capped_index}
use Rattle.keywords.proofs.arguments.number.Given as goal

abbrev pub invariant-loop-b : goal.invariant-loop-b
invariant-loop-b l =
    (l.n ≤ largest_index) × (capped_index (digits_after l.n (drop l.b-index l.digits)) ≡ capped_index (digits_after 0 l.digits))
