-- A number beyond all arguments is as good as any other.
use Rattle.std.proofs.Common.{◌≡◌, ℕ, ◌-◌, ◌<◌, ◌≤◌, min, leb, List, [], length, get_or, Some, Ok, sym, refl, ap, ◌∙◌, ⊎_elim, arith}
use Rattle.std.proofs.lemmas.List.{get_or_past, set_past}
use Rattle.std.proofs.lemmas.Bool.{cases_lt, lt-leb}
use Rattle.keywords.specs.Arguments.{capped_kind}
use Rattle.language.specs.Cores.{Core, with_arguments}
use Rattle.language.specs.Faults.{◌>>◌, must}
use Rattle.language.specs.Names.{Kind}
use Rattle.language.specs.Store.{value_by, settable_by, put_by}
use Rattle.language.specs.Texts.{Bytes, fits}
use Rattle.language.specs.declared.fault.StoreFault.TheVariants.{ListTooLong}

module _ (c : Core) (few : length c.arguments ≤ 256) where
  pub value_capped : (n : Bytes) (k : Kind) → value_by c n (capped_kind k) ≡ value_by c n k
  value_capped n (Kind.kept k) = refl
  value_capped n Kind.own = refl
  value_capped n Kind.absent = refl
  value_capped n (Kind.argument j) =
      ⊎_elim
      (λ (h : j < 1000000). let e : min j 1000000 ≡ j = omega arith in ap (λ (i : ℕ). Some (get_or c.arguments (i - 1) [])) e)
      (λ (h : 1000000 ≤ j).
      ap (λ (v : Bytes). Some v)
      (get_or_past c.arguments (min j 1000000 - 1) [] (omega arith) ∙ sym (get_or_past c.arguments (j - 1) [] (omega arith))))
      (cases_lt j 1000000)
  value_capped n Kind.ordinary = refl

  pub settable_capped : (k : Kind) → settable_by c (capped_kind k) ≡ settable_by c k
  settable_capped (Kind.kept k) = refl
  settable_capped Kind.own = refl
  settable_capped Kind.absent = refl
  settable_capped (Kind.argument j) =
      ⊎_elim
      (λ (h : j < 1000000). let e : min j 1000000 ≡ j = omega arith in ap (λ (i : ℕ). leb i (length c.arguments)) e)
      (λ (h : 1000000 ≤ j). lt-leb (min j 1000000) (length c.arguments) (omega arith) ∙ sym (lt-leb j (length c.arguments) (omega arith)))
      (cases_lt j 1000000)
  settable_capped Kind.ordinary = refl

  pub put_capped : (n t : Bytes) (k : Kind) → put_by c n t (capped_kind k) ≡ put_by c n t k
  put_capped n t (Kind.kept k) = refl
  put_capped n t Kind.own = refl
  put_capped n t Kind.absent = refl
  put_capped n t (Kind.argument j) =
      ⊎_elim
      (λ (h : j < 1000000). let e : min j 1000000 ≡ j = omega arith in ap (λ (i : ℕ). put_by c n t (Kind.argument i)) e)
      (λ (h : 1000000 ≤ j).
      ap (λ (ws : List Bytes). must (fits ws) ListTooLong >> Ok (with_arguments c ws))
      (set_past c.arguments (min j 1000000 - 1) t (omega arith) ∙ sym (set_past c.arguments (j - 1) t (omega arith))))
      (cases_lt j 1000000)
  put_capped n t Kind.ordinary = refl
