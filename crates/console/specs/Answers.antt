-- What an answer of the program holds.
use Rattle.std.specs.Prelude.{◌≡◌, ℕ, List, Some, None, Ok, Err, vec_items, Option}
use Rattle.script.specs.Judgement.{Verdict}
use Rattle.script.specs.Refusals.{refusal_number, refusal_line}
use Rattle.script.specs.declared.refusal.Refusal.{Refusal}
use Rattle.console.specs.declared.scripts.Answer.{Answer}

-- a refusal, or none, as the verdict has it
abbrev pub Tells : Option Refusal → Verdict → Type 0
Tells None v = (n : ℕ) × (v ≡ Ok n)
Tells (Some e) v = v ≡ Err (refusal_number e, refusal_line e)

abbrev pub Shows : Answer → Verdict → List ℕ → Type 0
Shows a v text = (vec_items a.text ≡ text) × Tells a.refusal v
