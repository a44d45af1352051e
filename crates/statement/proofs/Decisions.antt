-- What the first word that is not null decides.
use Rattle.std.proofs.Common.{◌≡◌, ℕ, true, false, cond, List, [], ◌∷◌, Some, None, Ok, Err, Option, Result, refl, ⊎_elim}
use Rattle.std.proofs.lemmas.Bool.{cases_Bool}
use Rattle.machine.specs.Machines.{Line}
use Rattle.language.specs.Cores.{Core}
use Rattle.language.specs.Faults.{◌>>=◌}
use Rattle.language.specs.Orders.{control_of}
use Rattle.language.specs.Statements.{Meaning, nothing_done, led, decided, clause}
use Rattle.language.specs.Texts.{Bytes, is_null}
use Rattle.language.specs.Words.{Word, word_of}
use Rattle.language.specs.declared.life.Stop.{Stop}
use Rattle.statement.specs.Solid.{first_solid}

module _ (line : ℕ) (c : Core) (st : List Line) where
  abbrev pub led_by : Option Bytes → List Word → Meaning
  led_by None ws = nothing_done line c st
  led_by (Some t) ws = led line c st t (control_of t) ws (clause line c st [] ws)

  one_word : (r : Result Bytes Stop) (ws : List Word) → decided line c st ws ≡ (first_solid line c ws >>= λ p. led_by p.0 p.1)
      → (r >>= λ t. cond (is_null t) (decided line c st ws) (led line c st t (control_of t) ws (clause line c st [] ws)))
      ≡ ((r >>= λ t. cond (is_null t) (first_solid line c ws) (Ok (Some t, ws))) >>= λ p. led_by p.0 p.1)
  one_word (Err s) ws e = refl
  one_word (Ok t) ws e =
      ⊎_elim
      (λ (h : is_null t ≡ true). rw h e)
      (λ (h : is_null t ≡ false). rw h)
      (cases_Bool (is_null t))

  pub decided_by : (ws : List Word) → decided line c st ws ≡ (first_solid line c ws >>= λ p. led_by p.0 p.1)
  decided_by [] = refl
  decided_by (w ∷ ws) = one_word (word_of line c w) ws (decided_by ws)
