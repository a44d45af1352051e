-- Sums judged in one pass: each sign and term in turn.
use Rattle.std.specs.Prelude.{cond, List, [], ◌∷◌, ℤ, ◌+ℤ◌, ◌-ℤ◌, Some, None, Ok, Err, codes, Option, Result}
use Rattle.std.specs.Option.{ok_or}
use Rattle.std.specs.Str.{bytes_eq}
use Rattle.text.specs.Numbers.{number_of, in_range}
use Rattle.language.specs.Texts.{Bytes}
use Rattle.language.specs.Faults.{◌>>=◌, ◌>>◌}
use Rattle.language.specs.Functions.{Yield}
use Rattle.language.specs.Assignments.{Item, yields}
use Rattle.language.specs.declared.fault.StatementFault.{StatementFault}
use Rattle.language.specs.declared.fault.StatementFault.TheVariants.{Malformed, WrongWord, OutOfRange, UnknownFunction}
use Rattle.expression.specs.Calls.{outcome_of}
use Rattle.expression.specs.declared.fault.CallFault as call
use Rattle.expression.specs.declared.sums.Sign.{Sign}
use Rattle.expression.specs.declared.sums.Sign.TheVariants.{Plus, Minus}

abbrev pub sign_of : Bytes → Option Sign
sign_of w = cond (bytes_eq w (codes "+")) (Some Plus) (cond (bytes_eq w (codes "-")) (Some Minus) None)

abbrev pub sign_in : Item → Option Sign
sign_in (Item.plain w) = sign_of w
sign_in (Item.call f ws) = None

-- the number of a term, or why it is none
abbrev pub term_of : Yield → Result ℤ call.CallFault
term_of y = outcome_of y >>= λ t. ok_or (number_of t) call.TheVariants.WrongWord

abbrev pub moved : Sign → ℤ → ℤ → ℤ
moved Plus total z = total +ℤ z
moved Minus total z = total -ℤ z

abbrev pub judged : ℤ → Result ℤ StatementFault
judged z = cond (in_range z) (Ok z) (Err OutOfRange)

-- a sum with one more term
abbrev pub added : Result ℤ StatementFault → Sign → Result ℤ call.CallFault → Result ℤ StatementFault
added total sign (Ok z) = total >>= λ t. judged (moved sign t z)
added total sign (Err call.TheVariants.WrongWord) = Err WrongWord
added total sign (Err call.TheVariants.UnknownFunction) = total >> Err UnknownFunction

abbrev pub by_sign : Option Sign → (Sign → Result ℤ StatementFault) → Result ℤ StatementFault
by_sign None next = Err Malformed
by_sign (Some sign) next = next sign

-- a sum so far with the signs and terms that follow
abbrev pub walk : Result ℤ StatementFault → List Item → Result ℤ StatementFault
walk total [] = total
walk total (s ∷ []) = by_sign (sign_in s) (λ sign. Err WrongWord)
walk total (s ∷ (x ∷ xs)) = by_sign (sign_in s) (λ sign. walk (added total sign (term_of (yields x))) xs)
