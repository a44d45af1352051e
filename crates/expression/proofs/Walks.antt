-- A sum judged in one pass comes to what the tests and the sum come to in turn.
use Rattle.std.proofs.Common.{◌≡◌, Bool, true, false, cond, ◌&&◌, ◌||◌, List, [], ◌∷◌, length, nat_eq, ℤ, ◌+ℤ◌, ◌-ℤ◌, is_some, Some, None, Ok, Err, codes, Option, Result, refl, sym, ap, ◌∙◌}
use Rattle.std.proofs.Math.Bool.{and-true}
use Rattle.std.specs.Option.{ok_or}
use Rattle.std.specs.Fmt.{signed_decimal}
use Rattle.std.specs.Str.{bytes_eq}
use Rattle.text.specs.Numbers.{number_of, in_range}
use Rattle.language.specs.Texts.{Bytes}
use Rattle.language.specs.Faults.{◌>>=◌, ◌>>◌, must}
use Rattle.language.specs.Functions.{Yield}
use Rattle.language.specs.Assignments.{Item, yields, alternates, text_of, is_term, are_terms, amount, summed, right_side}
use Rattle.language.specs.declared.fault.StatementFault.{StatementFault}
use Rattle.language.specs.declared.fault.StatementFault.TheVariants.{Malformed, WrongWord, OutOfRange}
use Rattle.expression.specs.Calls.{stated}
use Rattle.expression.specs.Sums.{term_of, sign_in, moved, judged, added, by_sign, walk}
use Rattle.expression.specs.declared.fault.CallFault as call
use Rattle.expression.specs.declared.sums.Sign.{Sign}
use Rattle.expression.specs.declared.sums.Sign.TheVariants.{Plus, Minus}

abbrev pub Sum : Type 0
Sum = Result ℤ StatementFault

-- the tests in front of a sum
abbrev tested : Bool → Bool → Sum → Sum
tested alt terms r = must alt Malformed >> (must terms WrongWord >> r)

abbrev wrong_term : Sum
wrong_term = Err WrongWord

wrong_either_way : (terms : Bool) → must terms WrongWord >> wrong_term ≡ wrong_term
wrong_either_way true = refl
wrong_either_way false = refl

judged_then : (z : ℤ) (next : ℤ → Sum) → judged z >>= next ≡ must (in_range z) OutOfRange >> next z
judged_then z next = elim (in_range z) as (λ b. cond {A = Sum} b (Ok z) (Err OutOfRange) >>= next ≡ must b OutOfRange >> next z) [ true ↦ refl | false ↦ refl ]

-- one term, where the number of its text is o
number_more : (o : Option ℤ) (sign : Sign) (terms : Bool) (total : Sum) (next : ℤ → Sum) →
    must terms WrongWord >> (added total sign (ok_or o call.TheVariants.WrongWord) >>= next)
    ≡ must (is_some o && terms) WrongWord >> (total >>= λ t. ok_or o WrongWord >>= λ z. must (in_range (moved sign t z)) OutOfRange >> next (moved sign t z))
number_more None sign terms total next = wrong_either_way terms
number_more (Some z) sign terms (Err f) next = refl
number_more (Some z) sign terms (Ok t) next = ap (λ (r : Sum). must terms WrongWord >> r) (judged_then (moved sign t z) next)

term_more : (y : Yield) (sign : Sign) (terms : Bool) (total : Sum) (next : ℤ → Sum) →
    must terms WrongWord >> (added total sign (term_of y) >>= next)
    ≡ must (is_term y && terms) WrongWord >> (total >>= λ t. (text_of y >>= λ u. ok_or (number_of u) WrongWord) >>= λ z. must (in_range (moved sign t z)) OutOfRange >> next (moved sign t z))
term_more (Yield.gives t) sign terms total next = number_more (number_of t) sign terms total next
term_more Yield.wrong sign terms total next = wrong_either_way terms
term_more Yield.unknown sign terms (Err f) next = refl
term_more Yield.unknown sign terms (Ok t) next = refl

-- the terms behind a sign
abbrev rest_terms : List Item → Bool
rest_terms [] = true
rest_terms (s ∷ xs) = are_terms xs

terms_more : (x : Item) (xs : List Item) → is_term (yields x) && rest_terms xs ≡ are_terms (x ∷ xs)
terms_more x [] = and-true (is_term (yields x))
terms_more x (s ∷ xs) = refl

-- a word that is a plus or a minus by these tests
by_sign_lem : (a b alt terms : Bool) (next : Sign → Sum) (sum : Bool → Sum) → next Plus ≡ tested alt terms (sum true) → next Minus ≡ tested alt terms (sum false) → by_sign (cond a (Some Plus) (cond b (Some Minus) None)) next ≡ tested ((a || b) && alt) terms (sum a)
by_sign_lem true b alt terms next sum plus minus = plus
by_sign_lem false true alt terms next sum plus minus = minus
by_sign_lem false false alt terms next sum plus minus = refl

-- the sum with the next term, and what follows
abbrev further : Sum → Item → List Item → (ℤ → ℤ → ℤ) → Sum
further total x xs move = total >>= λ t. amount x >>= λ z. must (in_range (move t z)) OutOfRange >> summed (move t z) xs

bind_ok : (total : Sum) → total ≡ total >>= λ t. Ok t
bind_ok (Ok t) = refl
bind_ok (Err f) = refl

pub walk_is : (x : Item) (ys : List Item) (total : Sum) → walk total ys ≡ tested (alternates (x ∷ ys)) (rest_terms ys) (total >>= λ t. summed t ys)
walk_is x [] total = bind_ok total
walk_is x (Item.call f ws ∷ []) total = refl
walk_is x (Item.plain w ∷ []) total =
    by_sign_lem (bytes_eq w (codes "+")) (bytes_eq w (codes "-")) true false (λ sign. wrong_term) (λ plus. total >>= λ t. wrong_term) refl refl
walk_is x (Item.call f ws ∷ (y ∷ ys)) total = refl
walk_is x (Item.plain w ∷ (y ∷ ys)) total =
    let next : (sign : Sign) → walk (added total sign (term_of (yields y))) ys ≡ tested (alternates (y ∷ ys)) (are_terms (y ∷ ys)) (further total y ys (moved sign)) =
    λ sign.
    walk_is y ys (added total sign (term_of (yields y)))
    ∙ ap (λ (r : Sum). must (alternates (y ∷ ys)) Malformed >> r) (term_more (yields y) sign (rest_terms ys) total (λ t. summed t ys))
    ∙ ap (λ (b : Bool). tested (alternates (y ∷ ys)) b (further total y ys (moved sign))) (terms_more y ys)
    in
    by_sign_lem (bytes_eq w (codes "+")) (bytes_eq w (codes "-")) (alternates (y ∷ ys)) (are_terms (y ∷ ys))
    (λ sign. walk (added total sign (term_of (yields y))) ys) (λ plus. further total y ys (λ t z. cond plus (t +ℤ z) (t -ℤ z)))
    (next Plus) (next Minus)

-- the text of a sum
abbrev pub written : Sum → Result Bytes StatementFault
written r = r >>= λ z. Ok (signed_decimal z)

tested_number : (o : Option ℤ) (alt terms : Bool) (sum : ℤ → Sum) →
    written (tested alt terms (stated (ok_or o call.TheVariants.WrongWord) >>= sum))
    ≡ must alt Malformed >> (must (is_some o && terms) WrongWord >> (ok_or o WrongWord >>= λ z. written (sum z)))
tested_number o false terms sum = refl
tested_number None true true sum = refl
tested_number None true false sum = refl
tested_number (Some z) true true sum = refl
tested_number (Some z) true false sum = refl

tested_term : (y : Yield) (alt terms : Bool) (sum : ℤ → Sum) →
    written (tested alt terms (stated (term_of y) >>= sum))
    ≡ must alt Malformed >> (must (is_term y && terms) WrongWord >> ((text_of y >>= λ t. ok_or (number_of t) WrongWord) >>= λ z. written (sum z)))
tested_term (Yield.gives t) alt terms sum = tested_number (number_of t) alt terms sum
tested_term Yield.wrong false terms sum = refl
tested_term Yield.wrong true true sum = refl
tested_term Yield.wrong true false sum = refl
tested_term Yield.unknown false terms sum = refl
tested_term Yield.unknown true true sum = refl
tested_term Yield.unknown true false sum = refl

-- two items and more are a sum
pub sum_is : (x : Item) (xs : List Item) → nat_eq (length xs) 0 ≡ false → right_side (x ∷ xs) ≡ written (walk (stated (term_of (yields x))) xs)
sum_is x [] e = absurd (cc)
sum_is x (s ∷ xs) e =
    sym
    (ap written (walk_is x (s ∷ xs) (stated (term_of (yields x))))
    ∙ tested_term (yields x) (alternates (x ∷ (s ∷ xs))) (are_terms xs) (λ z. summed z (s ∷ xs)))

-- a sign and a term more
pub walk_more : (all rest xs : List Item) (s x : Item) (total : Sum) (sign : Sign) (term : Result ℤ call.CallFault) → all ≡ s ∷ rest → rest ≡ x ∷ xs → sign_in s ≡ Some sign → term ≡ term_of (yields x) → walk (added total sign term) xs ≡ walk total all
walk_more all rest xs s x total sign term e f g h = rw (e, f, h) (rw g refl)
