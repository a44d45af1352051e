use Rattle.std.proofs.Common.{◌≡◌, ◌≤◌, drop}
use Rattle.text.specs.Numbers.{capped, digits_after}
use Rattle.text.proofs.numbers.magnitude.Given as goal

abbrev pub invariant-loop-b : goal.invariant-loop-b
invariant-loop-b l =
    (l.n ≤ 2147483648) × (capped (digits_after l.n (drop l.b-index l.digits)) ≡ capped (digits_after 0 l.digits))
