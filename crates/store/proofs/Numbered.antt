-- An argument's number tells its name.
use Rattle.std.proofs.Common.{◌≡◌, ℕ, zero, suc, ◌+◌, ◌-◌, ◌*◌, ◌^◌, ◌<◌, ◌≤◌, true, false, eqb, List, [], ◌∷◌, length, drop, Some, None, decimal, Option, sym, refl, ap, ◌∙◌, ⊎_elim, arith}
use Rattle.std.specs.Char.{is_ascii_digit}
use Rattle.std.specs.Str.{all_ascii_digits}
use Rattle.std.proofs.lemmas.Fmt.{decimal-digits_value, decimal_digit}
use Rattle.std.proofs.lemmas.Str.Parse.{IsNumeralModel, numerals_by_fold, tells_all_ascii_digits}
use Rattle.std.proofs.lemmas.Bool.{cases_Bool, and_from, eqb-false, eqb-true, ne_eqb, true≢false}
use Rattle.text.specs.Numbers.{digits_after}
use Rattle.language.specs.Names.{index_of}
use Rattle.language.specs.Texts.{Bytes, has_ampersand}

-- the number that digits write after the number so far
value_after : ℕ → List ℕ → ℕ
value_after n [] = n
value_after n (b ∷ bs) = value_after (n * 10 + (b - 48)) bs

own : IsNumeralModel (λ ds. all_ascii_digits ds ≡ true) (value_after 0)
unfolding value_after
own = numerals_by_fold _ tells_all_ascii_digits value_after (record { empty = λ n. refl; more = λ n c cs h. refl })

read : (n j : ℕ) (ds : List ℕ) → digits_after n ds ≡ Some j → (all_ascii_digits ds ≡ true) × (value_after n ds ≡ j)
unfolding value_after
read n j [] e = (refl, cc)
read n j (b ∷ bs) e =
    ⊎_elim
    (λ (h : is_ascii_digit b ≡ true).
    let r = read (n * 10 + (b - 48)) j bs (rw h at e) in
    (and_from _ _ h r.0, r.1))
    (λ (h : is_ascii_digit b ≡ false). absurd (let f : None ≡ Some j = rw h at e in let z : ◌≡◌ {A = ℕ} 0 1 = cc in omega arith))
    (cases_Bool (is_ascii_digit b))

-- digits with no leading zero are those of their number
pub spelt : (ds : List ℕ) (j : ℕ) → j < 2 ^ 64 → index_of ds ≡ Some j → decimal j ≡ ds
spelt [] j h e = absurd (let z : ◌≡◌ {A = ℕ} 0 1 = cc in omega arith)
spelt (b ∷ bs) j h e =
    ⊎_elim
    (λ (k : eqb b 48 ≡ true). absurd (let f : None ≡ Some j = rw k at e in let z : ◌≡◌ {A = ℕ} 0 1 = cc in omega arith))
    (λ (k : eqb b 48 ≡ false).
    let one : eqb (suc (length bs)) 0 ≡ false = ne_eqb _ _ (omega arith) in
    let f : digits_after 0 (b ∷ bs) ≡ Some j = rw (k, one) at e in
    let r = read 0 j (b ∷ bs) f in
    let v : value_after 0 (b ∷ bs) ≡ j = r.1 in
    ap decimal (sym v)
    ∙ decimal-digits_value own (b ∷ bs) r.0 (omega arith) (λ q. absurd (eqb-false b 48 k q)) (omega arith))
    (cases_Bool (eqb b 48))

leading : (ds : List ℕ) → index_of ds ≡ Some 0 → ds ≡ 48 ∷ [] → ⊥
leading ds e q =
    let f : index_of (48 ∷ []) ≡ Some 0 = ap index_of (sym q) ∙ e in
    let g : ◌≡◌ {A = Option ℕ} None (Some 0) = f in
    let z : ◌≡◌ {A = ℕ} 0 1 = cc in
    omega arith

-- no argument has the number 0
pub from_one : (ds : List ℕ) (j : ℕ) → index_of ds ≡ Some j → 1 ≤ j
from_one ds zero e = absurd (leading ds e (sym (spelt ds 0 (omega arith) e) ∙ decimal_digit 0 (omega arith)))
from_one ds (suc j) e = omega arith

-- two names of one number are one name
pub same_number : (m n : Bytes) (j : ℕ) → has_ampersand m ≡ true → has_ampersand n ≡ true → j < 2 ^ 64 → index_of (drop 1 m) ≡ Some j → index_of (drop 1 n) ≡ Some j → m ≡ n
same_number [] n j a b h p q = absurd (true≢false (sym a))
same_number (x ∷ m) [] j a b h p q = absurd (true≢false (sym b))
same_number (x ∷ m) (y ∷ n) j a b h p q =
    let e : m ≡ n = sym (spelt m j h p) ∙ spelt n j h q in
    let f : x ≡ y = eqb-true x 38 a ∙ sym (eqb-true y 38 b) in
    ap (λ (z : ℕ). z ∷ m) f ∙ ap (λ (ys : List ℕ). y ∷ ys) e
