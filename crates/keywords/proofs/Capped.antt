-- Numbers of arguments that are taken as the largest one, and kinds that hold such a number.
use Rattle.std.proofs.Common.{◌≡◌, ℕ, ◌+◌, ◌-◌, ◌*◌, ◌<◌, ◌≤◌, min, true, false, cond, List, [], ◌∷◌, drop, Some, None, Option, unwrap_or, sym, refl, ap, ◌∙◌, ⊎_elim, arith}
use Rattle.std.specs.Option.{option_map, MatchOption}
use Rattle.std.specs.Char.{is_ascii_digit}
use Rattle.std.proofs.lemmas.Bool.{cases_lt}
use Rattle.text.specs.Numbers.{digits_after}
use Rattle.language.specs.declared.name.Kind as name
use Rattle.language.specs.Views.{kind_seen}
use Rattle.language.specs.Names.{Kind, known_names, index_of, numbered_or, kind_of}
use Rattle.language.specs.Texts.{Bytes, tabled}
use Rattle.keywords.proofs.Sieve.{tabled_viewed}
use Rattle.keywords.specs.Arguments.{largest_index, capped_index, capped_kind}

-- two numbers that are too large come to the same, whatever digits follow
over : (m n : ℕ) (bs : List ℕ) → largest_index ≤ m → largest_index ≤ n → capped_index (digits_after m bs) ≡ capped_index (digits_after n bs)
over m n [] h k = let e : min m largest_index ≡ min n largest_index = omega arith in ap Some e
over m n (b ∷ bs) h k =
    elim (is_ascii_digit b) as (λ t. capped_index (cond t (digits_after (m * 10 + (b - 48)) bs) None) ≡ capped_index (cond t (digits_after (n * 10 + (b - 48)) bs) None))
    [ true ↦ over (m * 10 + (b - 48)) (n * 10 + (b - 48)) bs (omega arith) (omega arith) | false ↦ refl ]

-- so a number may be taken as the largest one while digits still follow
pub early : (n : ℕ) (bs : List ℕ) → capped_index (digits_after (min n largest_index) bs) ≡ capped_index (digits_after n bs)
early n bs =
    ⊎_elim
    (λ (h : n < largest_index). let e : min n largest_index ≡ n = omega arith in ap (λ (m : ℕ). capped_index (digits_after m bs)) e)
    (λ (h : largest_index ≤ n). over (min n largest_index) n bs (omega arith) h)
    (cases_lt n largest_index)

-- no known name is the number of an argument
known_stay : (n : Bytes) → option_map capped_kind (tabled known_names n) ≡ tabled known_names n
known_stay n = tabled_viewed capped_kind known_names n

numbered : (r : Option ℕ) → numbered_or Kind.ordinary (capped_index r) ≡ capped_kind (numbered_or Kind.ordinary r)
numbered None = refl
numbered (Some j) = refl

-- a known kind goes first, and the number of an argument next
pub kind_given : (n : Bytes) (o : Option name.Kind) (k : name.Kind) → {P : Type 0} {Q : name.Kind → Type 0} → option_map kind_seen o ≡ tabled known_names n → MatchOption o P Q → (P → kind_seen k ≡ numbered_or Kind.ordinary (capped_index (index_of (drop 1 n)))) → ((j : name.Kind) → Q j → k ≡ j) → kind_seen k ≡ capped_kind (kind_of n)
unfolding kind_of
kind_given n None k e m p q =
    p m
    ∙ numbered (index_of (drop 1 n))
    ∙ ap (λ (o : Option Kind). capped_kind (unwrap_or o (numbered_or Kind.ordinary (index_of (drop 1 n))))) e
kind_given n (Some j) k e m p q =
    let s : Some (kind_seen j) ≡ option_map capped_kind (Some (kind_seen j)) = e ∙ sym (known_stay n) ∙ ap (option_map capped_kind) (sym e) in
    ap kind_seen (q j m)
    ∙ cc
