use Rattle.std.proofs.Common.{◌+◌, ◌-◌, ◌*◌, get_or, drop, sym, ◌∙◌, arith}
use Rattle.text.proofs.Digits.{over, at_digit, some_digits}
use Rattle.text.proofs.numbers.magnitude.Goals as goal

pub returns-then-n-gt2147483648 : goal.returns-then-n-gt2147483648
returns-then-n-gt2147483648 c =
    record {
      is =
          sym (over (c.loop-b.n * 10 + (get_or c.args.digits.now c.loop-b.b-index 0 - 48)) (drop (c.loop-b.b-index + 1) c.args.digits.now) (omega arith))
          ∙ sym (at_digit c.args.digits.now c.loop-b.b-index c.loop-b.n (omega arith) c.if-not-is_ascii_digit.ensures.value)
          ∙ c.loop-b.invariant.1 ∙ sym (some_digits c.args.digits.now (sym c.is_empty.ensures ∙ c.if-is_empty.false));
      small = tt;
    }
