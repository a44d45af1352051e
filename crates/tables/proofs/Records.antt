-- Records of the table of variables, and the variables that they stand for.
use Rattle.std.proofs.Common.{◌≡◌, ℕ, suc, Bool, true, false, cond, List, [], ◌∷◌, map, length, set, Some, Ok, Option, refl, sym, ap, ◌∙◌, arith}
use Rattle.std.specs.Prelude.{◌==◌}
use Rattle.std.specs.List.{remove}
use Rattle.std.proofs.lemmas.Bool.{ne_eqb}
use Rattle.std.proofs.lemmas.List.{map-set}
use Rattle.text.specs.Search.{first_from}
use Rattle.text.specs.Tables.{held}
use Rattle.text.proofs.Rounds.{first_from-map}
use Rattle.text.proofs.Tables.{map-removed}
use Rattle.language.specs.Cores as cores
use Rattle.language.specs.Store.{bears, variable, variable_at, assigned_at}
use Rattle.language.specs.Texts.{Bytes, is_null}
use Rattle.tables.specs.Assigned.{assigned_to}
use Rattle.tables.specs.Tables.{variable_seen, variables_seen}
use Rattle.tables.specs.declared.variables.Variable.{Variable}
use Rattle.tables.specs.declared.variables.Variables.{Variables}

null_by_length : (t : Bytes) → (length t == 0) ≡ is_null t
null_by_length [] = refl
null_by_length (b ∷ bs) = ne_eqb (suc (length bs)) 0 (omega arith)

module _ (v : Variables) where
  pub found : (name : Bytes) (records : List Variable) (r : Option ℕ) → records ≡ held v.records → r ≡ first_from (λ x. bears name (variable_seen x)) 0 records → r ≡ variable_at (variables_seen v) name
  found name records r e q =
      q ∙ first_from-map variable_seen (bears name) 0 records
      ∙ ap (λ (vs : List Variable). variable_at (map variable_seen vs) name) e

  -- a variable that is there, freed or changed
  module _ (w : Variables) (n t b : Bytes) (i : ℕ) (e : Some i ≡ variable_at (variables_seen v) n) (q : b ≡ t) where
    null : (a : Bool) → a ≡ (length b == 0) → is_null t ≡ a
    null a h = sym (null_by_length t) ∙ ap (λ (s : Bytes). length s == 0) (sym q) ∙ sym h

    pub freed : true ≡ (length b == 0) → held w.records ≡ remove (held v.records) i → Ok (variables_seen w) ≡ assigned_to (variables_seen v) n t
    freed h r =
        ap (λ (vs : List Variable). Ok (map variable_seen vs)) r
        ∙ ap (λ (vs : List cores.Variable). Ok vs) (map-removed variable_seen (held v.records) i)
        ∙ ap (λ (a : Bool). Ok (cond a (remove (variables_seen v) i) (set (variables_seen v) i (variable n t)))) (sym (null true h))
        ∙ ap (assigned_at (variables_seen v) n t) e

    pub changed : (x : Variable) → false ≡ (length b == 0) → variable_seen x ≡ variable n t → held w.records ≡ set (held v.records) i x → Ok (variables_seen w) ≡ assigned_to (variables_seen v) n t
    changed x h y r =
        ap (λ (vs : List Variable). Ok (map variable_seen vs)) r
        ∙ ap (λ (vs : List cores.Variable). Ok vs) (map-set variable_seen (held v.records) i x)
        ∙ ap (λ (z : cores.Variable). Ok (set (variables_seen v) i z)) y
        ∙ ap (λ (a : Bool). Ok (cond a (remove (variables_seen v) i) (set (variables_seen v) i (variable n t)))) (sym (null false h))
        ∙ ap (assigned_at (variables_seen v) n t) e
