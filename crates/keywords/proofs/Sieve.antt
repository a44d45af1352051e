-- Tables of names: the first entry of a name, values through a view, and tables cut down to the names that a word can be.
use Rattle.std.proofs.Common.{◌≡◌, ℕ, true, false, cond, eqb, List, [], ◌∷◌, map, Some, None, Option, Bor, sym, refl, ap, ◌∙◌, ⊎_elim}
use Rattle.std.specs.List.{find}
use Rattle.std.specs.Option.{option_map, MatchOption, IsSomeAnd}
use Rattle.std.specs.Str.{bytes_eq}
use Rattle.std.proofs.lemmas.Slice.Eq.{bytes_eq-Decides}
use Rattle.std.proofs.lemmas.Bool.{cases_Bool, both_ways, eq-eqb}
use Rattle.language.specs.Texts.{Bytes, tabled}
use Rattle.keywords.specs.Tables.{listed, telling}

-- a table with its values through a view
abbrev pub viewed : {A B : Type 0} → (A → B) → List (Bytes × A) → List (Bytes × B)
viewed view t = map (λ e. (e.0, view e.1)) t

-- the entries that have a telling byte
abbrev pub under : {A : Type 0} → ℕ → List (Bytes × A) → List (Bytes × A)
under b [] = []
under b (e ∷ es) = cond (eqb b (telling e.0)) (e ∷ under b es) (under b es)

first_tabled : {K : Type 0} → (n : Bytes) (t : List (Bor Bytes × K)) → option_map (λ e. e.1) (find (λ e. bytes_eq e.0.now n) t) ≡ tabled (listed t) n
first_tabled n [] = refl
first_tabled {K} n (e ∷ es) =
    elim (bytes_eq e.0.now n) as (λ b. option_map (λ e. e.1) (cond b (Some e) (find (λ e. bytes_eq e.0.now n) es)) ≡ cond b (Some e.1) (tabled (listed es) n))
    [ true ↦ refl | false ↦ first_tabled n es ]

-- the value of the first entry that has the name
pub value_tabled : {K : Type 0} → (n : Bytes) (t : List (Bor Bytes × K)) (o : Option (Bor (Bor Bytes × K))) (r : Option K) → {Q : Bor (Bor Bytes × K) → K → Type 0} → option_map (λ e. e.now) o ≡ find (λ e. bytes_eq e.0.now n) t → MatchOption o (r ≡ None) (λ x. IsSomeAnd r (Q x)) → ((x : Bor (Bor Bytes × K)) (k : K) → Q x k → k ≡ x.now.1) → r ≡ tabled (listed t) n
value_tabled n t None r h m q = m ∙ ap (option_map (λ e. e.1)) h ∙ first_tabled n t
value_tabled n t (Some x) None h m q = absurd m
value_tabled n t (Some x) (Some k) h m q = ap Some (q x k m) ∙ ap (option_map (λ e. e.1)) h ∙ first_tabled n t

-- what a table has, through a view
pub tabled_viewed : {A B : Type 0} → (view : A → B) (t : List (Bytes × A)) (n : Bytes) → option_map view (tabled t n) ≡ tabled (viewed view t) n
tabled_viewed view [] n = refl
tabled_viewed view (e ∷ es) n =
    elim (bytes_eq e.0 n) as (λ b. option_map view (cond b (Some e.1) (tabled es n)) ≡ cond b (Some (view e.1)) (tabled (viewed view es) n))
    [ true ↦ refl | false ↦ tabled_viewed view es n ]

-- what is found in a table of the code is what the table behind the view has
pub found : {A B : Type 0} → (view : A → B) (t : List (Bytes × A)) (n : Bytes) → {r : Option A} → r ≡ tabled t n → option_map view r ≡ tabled (viewed view t) n
found view t n h = ap (option_map view) h ∙ tabled_viewed view t n

module _ (b : ℕ) (n : Bytes) (h : eqb b (telling n) ≡ true) where
  other : (m : Bytes) → eqb b (telling m) ≡ false → bytes_eq m n ≡ false
  other m q =
      ⊎_elim
      (λ (s : bytes_eq m n ≡ true). absurd (both_ways (eqb b (telling m)) q (ap (λ (z : Bytes). eqb b (telling z)) ((bytes_eq-Decides m n).0 s) ∙ h)))
      (λ (s : bytes_eq m n ≡ false). s)
      (cases_Bool (bytes_eq m n))

  under_same : {A : Type 0} → (t : List (Bytes × A)) → tabled (under b t) n ≡ tabled t n
  under_same [] = refl
  under_same {A} (e ∷ es) =
      ⊎_elim
      (λ (q : eqb b (telling e.0) ≡ true). rw q (ap (λ (o : Option A). cond (bytes_eq e.0 n) (Some e.1) o) (under_same es)))
      (λ (q : eqb b (telling e.0) ≡ false). rw (q, other e.0 q) (under_same es))
      (cases_Bool (eqb b (telling e.0)))

-- the same, where the table of the code has the names with the telling byte of a name
pub found_under : {A B : Type 0} → (view : A → B) (u : List (Bytes × B)) (t : List (Bytes × A)) (n : Bytes) → {s b : ℕ} {r : Option A} → s ≡ telling n → s ≡ b → r ≡ tabled t n → viewed view t ≡ under b u → option_map view r ≡ tabled u n
found_under view u t n {s} {b} k l h e =
    found view t n h
    ∙ ap (λ z. tabled z n) e
    ∙ under_same b n (eq-eqb b (telling n) (sym l ∙ k)) u
