-- There are items where there are words.
use Rattle.std.proofs.Common.{◌≡◌, true, false, List, [], ◌∷◌, length, cond, nat_eq, drop, refl, arith}
use Rattle.language.specs.Texts.{Bytes}
use Rattle.language.specs.Assignments.{Item, begins_of, items_of}

pub no_items : (ws : List Bytes) → nat_eq (length (items_of ws)) 0 ≡ nat_eq (length ws) 0
no_items [] = refl
no_items (w ∷ ws) =
    elim (begins_of ws) as (λ b. nat_eq (length (cond b (Item.call w (drop 1 ws) ∷ []) (Item.plain w ∷ items_of ws))) 0 ≡ nat_eq (length (w ∷ ws)) 0)
    [ true ↦ grind arith | false ↦ grind arith ]
