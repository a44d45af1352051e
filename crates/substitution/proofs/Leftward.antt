-- Replacement, one byte further to the left.
use Rattle.std.proofs.Common.{◌≡◌, ℕ, zero, suc, ◌+◌, ◌-◌, ◌≤◌, [], ◌∷◌, drop, Err, ap, ◌∙◌, add-zero, arith}
use Rattle.std.proofs.lemmas.List.{drop-drop}
use Rattle.language.specs.Cores.{Core}
use Rattle.language.specs.Texts.{Bytes}
use Rattle.language.specs.Words.{substituted}
use Rattle.language.specs.declared.fault.WordFault.{WordFault}

module _ (c : Core) where
  -- a fault met further to the right is the word's
  met : (w : Bytes) (left i : ℕ) (f : WordFault) → substituted c (left + i) (drop i w) ≡ Err f → substituted c left w ≡ Err f
  met w left zero f e = rw add-zero at e
  met [] left (suc i) f e = absurd (let z : ◌≡◌ {A = ℕ} 0 1 = cc in omega arith)
  met (b ∷ bs) left (suc i) f e =
      let shift : left + suc i ≡ left + 1 + i = omega arith in
      let h : substituted c (left + 1 + i) (drop i bs) ≡ Err f = rw shift at e in
      rw (met bs (left + 1) i f h)

  -- a fault behind the first bytes
  pub met_behind : (w : Bytes) (from i : ℕ) (f : WordFault) → substituted c i (drop i w) ≡ Err f → from ≤ i → substituted c from (drop from w) ≡ Err f
  met_behind w from i f e h =
      let s : from + (i - from) ≡ i = omega arith in
      let d : drop (i - from) (drop from w) ≡ drop i w = drop-drop (i - from) from w ∙ ap (λ (k : ℕ). drop k w) s in
      met (drop from w) from (i - from) f (ap (λ (k : ℕ). substituted c k (drop (i - from) (drop from w))) s ∙ ap (substituted c i) d ∙ e)
