-- How a loop over records comes to the first that passes.
use Rattle.std.proofs.Common.{◌≡◌, add-zero, add_assoc, option_map, ℕ, suc, ◌+◌, ◌-◌, ◌<◌, ◌≤◌, min, Bool, true, false, cond, List, [], ◌∷◌, map, length, get_or, take, drop, Some, None, Option, sym, refl, ap, ◌∙◌, ⊎_elim, arith, length-take}
use Rattle.std.proofs.lemmas.List.{drop_all, take_min, take-map, drop-map}
use Rattle.std.proofs.lemmas.Bool.{cases_lt, cases_Bool}
use Rattle.text.specs.Search.{first_from, or_else, first_round}

-- the places of what stands behind so many records
first_from-shift : {R : Type 0} (p : R → Bool) (k i : ℕ) (xs : List R) → first_from p (k + i) xs ≡ option_map (λ j. k + j) (first_from p i xs)
first_from-shift p k i [] = refl
first_from-shift p k i (x ∷ xs) =
    elim (p x) as (λ t. cond t (Some (k + i)) (first_from p (k + i + 1) xs) ≡ option_map (λ j. k + j) (cond t (Some i) (first_from p (i + 1) xs)))
    [ true ↦ refl | false ↦ ap (λ (m : ℕ). first_from p m xs) (add_assoc k i 1) ∙ first_from-shift p k (i + 1) xs ]

behind : {R : Type 0} (p : R → Bool) (xs : List R) (from n : ℕ) → n ≡ min from (length xs) → first_from p from (drop from xs) ≡ option_map (λ j. n + j) (first_from p 0 (drop n xs))
behind {R} p xs from n e =
    ⊎_elim
    (λ (h : from < length xs). let k : n ≡ from = omega (arith, e) in rw k (ap (λ (m : ℕ). first_from p m (drop from xs)) (sym (add-zero from)) ∙ first_from-shift p from 0 (drop from xs)))
    (λ (h : length xs ≤ from).
    let l = drop_all from xs h in
    let m = drop_all n xs (omega (arith, e)) in
    rw (l, m) refl)
    (cases_lt from (length xs))

module _ {R : Type 0} (p : R → Bool) (xs front back : List R) (from n : ℕ) (e : n ≡ min from (length xs)) (f : front ≡ take n xs) (b : back ≡ drop n xs) (a : Option ℕ) (q : a ≡ first_from p 0 back) where
  pub found_behind : (i : ℕ) → a ≡ Some i → Some (length front + i) ≡ first_round p from xs
  found_behind i h =
      let l : length front ≡ n = ap length f ∙ length-take n xs ∙ omega (arith, e) in
      sym (ap (λ (o : Option ℕ). or_else o (first_from p 0 (take from xs))) (behind p xs from n e ∙ ap (option_map (λ j. n + j)) (ap (first_from p 0) (sym b) ∙ sym q ∙ h)) ∙ ap (λ m. Some (m + i)) (sym l))

  pub found_before : (c : Option ℕ) → a ≡ None → c ≡ first_from p 0 front → c ≡ first_round p from xs
  found_before c h r =
      r ∙ ap (first_from p 0) (f ∙ ap (λ m. take m xs) e ∙ take_min from xs)
      ∙ sym (ap (λ (o : Option ℕ). or_else o (first_from p 0 (take from xs))) (behind p xs from n e ∙ ap (option_map (λ j. n + j)) (ap (first_from p 0) (sym b) ∙ sym q ∙ h)))

-- a search through what a function gives of the records
pub first_from-map : {A B : Type 0} (f : A → B) (p : B → Bool) (i : ℕ) (xs : List A) → first_from (λ (x : A). p (f x)) i xs ≡ first_from p i (map f xs)
first_from-map f p i [] = refl
first_from-map f p i (x ∷ xs) = ap (λ (o : Option ℕ). cond (p (f x)) (Some i) o) (first_from-map f p (i + 1) xs)

pub first_round-map : {A B : Type 0} (f : A → B) (p : B → Bool) (from : ℕ) (xs : List A) → first_round (λ (x : A). p (f x)) from xs ≡ first_round p from (map f xs)
first_round-map {A} {B} f p from xs =
    ap (λ (o : Option ℕ). or_else o (first_from (λ (x : A). p (f x)) 0 (take from xs))) (first_from-map f p from (drop from xs) ∙ ap (first_from p from) (sym (drop-map f from xs)))
    ∙ ap (or_else (first_from p from (drop from (map f xs)))) (first_from-map f p 0 (take from xs) ∙ ap (first_from p 0) (sym (take-map f from xs)))

-- what is found is one of the list, and passes
module _ {R : Type 0} (p : R → Bool) where
  pub first_within : (xs : List R) (k i : ℕ) → Some i ≡ first_from p k xs → (k ≤ i) × (i < k + length xs)
  first_within [] k i e = absurd (let z : ◌≡◌ {A = ℕ} 0 1 = cc in omega arith)
  first_within (x ∷ xs) k i e =
      ⊎_elim
      (λ (h : p x ≡ true). let f : Some i ≡ Some k = rw h at e in let j : i ≡ k = cc in (omega arith, omega arith))
      (λ (h : p x ≡ false). let g = first_within xs (k + 1) i (rw h at e) in (omega arith, omega arith))
      (cases_Bool (p x))

  pub first_passes : (xs : List R) (k i : ℕ) (d : R) → Some i ≡ first_from p k xs → p (get_or xs (i - k) d) ≡ true
  first_passes [] k i d e = absurd (let z : ◌≡◌ {A = ℕ} 0 1 = cc in omega arith)
  first_passes (x ∷ xs) k i d e =
      ⊎_elim
      (λ (h : p x ≡ true).
      let f : Some i ≡ Some k = rw h at e in
      let j : i ≡ k = cc in
      let z : i - k ≡ 0 = omega arith in
      rw z h)
      (λ (h : p x ≡ false).
      let f : Some i ≡ first_from p (k + 1) xs = rw h at e in
      let low = first_within xs (k + 1) i f in
      let z : i - k ≡ suc (i - (k + 1)) = omega arith in
      rw z (first_passes xs (k + 1) i d f))
      (cases_Bool (p x))
