-- Conditions read by place.
use Rattle.std.proofs.Common.{◌≡◌, ◌≤◌, List, [], ◌∷◌, length, get_or, drop, Ok, refl, arith}
use Rattle.std.specs.Option.{ok_or}
use Rattle.text.specs.Order.{word_order}
use Rattle.language.specs.Conditions.{comparative_of, holds, condition_holds}
use Rattle.language.specs.Faults.{◌>>=◌}
use Rattle.language.specs.Texts.{Bytes}
use Rattle.language.specs.declared.fault.StatementFault.TheVariants.{Malformed}

pub placed : (ws : List Bytes) → 3 ≤ length ws → condition_holds (drop 1 ws) ≡ (ok_or (comparative_of (get_or ws 2 [])) Malformed >>= λ q. Ok (holds q (word_order (get_or ws 1 []) (get_or ws 3 []))))
placed [] h = absurd (omega arith)
placed (i ∷ []) h = absurd (omega arith)
placed (i ∷ (v ∷ [])) h = absurd (omega arith)
placed (i ∷ (v ∷ (r ∷ ws))) h = refl
