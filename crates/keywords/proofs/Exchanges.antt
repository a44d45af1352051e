-- Exchanges of bytes: the first place of a byte, and a text that is made byte by byte.
use Rattle.std.proofs.Common.{◌≡◌, ℕ, ◌+◌, Bool, eqb, [], ◌∷◌, cond, map, Some, Option, position, refl, ap, ◌∙◌}
use Rattle.std.specs.List.{position_from}
use Rattle.std.proofs.lemmas.Iterator.Adapters.{position_from-zero}
use Rattle.text.specs.Search.{first_from}
use Rattle.language.specs.Functions.{exchanged_at, translated}
use Rattle.language.specs.Texts.{Bytes}

first_from_is : (p : ℕ → Bool) (i : ℕ) (bs : Bytes) → position_from p i bs ≡ first_from p i bs
first_from_is p i [] = refl
first_from_is p i (b ∷ bs) = ap (λ (o : Option ℕ). cond (p b) (Some i) o) (first_from_is p (i + 1) bs)

-- the first place, in the library's word
pub position-first_from : (p : ℕ → Bool) (bs : Bytes) → position p bs ≡ first_from p 0 bs
position-first_from p bs = position_from-zero p bs ∙ first_from_is p 0 bs

-- what a byte becomes
abbrev pub exchange : Bytes → Bytes → ℕ → ℕ
exchange from to b = exchanged_at to b (first_from (λ x. eqb x b) 0 from)

pub translated_each : (from to bs : Bytes) → translated bs from to ≡ map (exchange from to) bs
translated_each from to [] = refl
translated_each from to (b ∷ bs) = ap (λ (ys : Bytes). exchange from to b ∷ ys) (translated_each from to bs)
