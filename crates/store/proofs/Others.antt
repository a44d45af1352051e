-- Setting a name changes no other.
use Rattle.std.proofs.Common.{◌≡◌, ℕ, suc, ◌+◌, ◌-◌, ◌^◌, ◌<◌, ◌≤◌, Bool, true, false, cond, not, ◌&&◌, ltb, leb, ◌≢◌, List, [], ◌∷◌, ◌++◌, length, get_or, drop, set, Some, None, Ok, Err, decimal, Option, Result, unwrap_or, sym, refl, ap, ◌∙◌, ⊎_elim, arith, length-set}
use Rattle.std.specs.List.{remove}
use Rattle.std.specs.Str.{bytes_eq}
use Rattle.std.proofs.lemmas.Slice.Eq.{bytes_eq-Decides}
use Rattle.std.proofs.lemmas.List.{get_or-set_other}
use Rattle.std.proofs.lemmas.Bool.{cases_Bool, leb-true, and_parts, true≢false}
use Rattle.text.specs.Search.{first_from}
use Rattle.text.proofs.Rounds.{first_within}
use Rattle.language.specs.Cores.{Core, Variable, with_variables, with_arguments}
use Rattle.language.specs.Faults.{◌>>=◌, ◌>>◌, must}
use Rattle.language.specs.Names.{KeptName, Kind, kind_of, index_of, numbered_or, known_names}
use Rattle.language.specs.Store.{bears, variable, variable_at, value_at, value_of, value_by, kept_value, settable_by, assigned_at, put_by, put}
use Rattle.tables.specs.Assigned.{assigned_to}
use Rattle.language.specs.Texts.{Bytes, is_null, tabled, has_ampersand}
use Rattle.language.specs.declared.fault.StoreFault.{StoreFault}
use Rattle.language.specs.declared.fault.StoreFault.TheVariants.{CannotBeSet, TooManyVariables, ListTooLong}
use Rattle.store.specs.Others.{OthersKept}
use Rattle.store.proofs.Numbered.{same_number, from_one}

-- the value of the first variable that bears a name
looked : List Variable → Bytes → Bytes
looked [] n = []
looked (v ∷ vs) n = cond (bears n v) v.value (looked vs n)

found : List Variable → ℕ → Option ℕ → Bytes
found vs k None = []
found vs k (Some i) = (get_or vs (i - k) (variable [] [])).value

later : (v : Variable) (vs : List Variable) (n : Bytes) (k : ℕ) (o : Option ℕ) → o ≡ first_from (bears n) (k + 1) vs → found (v ∷ vs) k o ≡ found vs (k + 1) o
unfolding found
later v vs n k None e = refl
later v vs n k (Some i) e =
    let w = first_within (bears n) vs (k + 1) i e in
    let z : i - k ≡ suc (i - (k + 1)) = omega arith in
    ap (λ (j : ℕ). (get_or (v ∷ vs) j (variable [] [])).value) z

looked_from : (vs : List Variable) (n : Bytes) (k : ℕ) → found vs k (first_from (bears n) k vs) ≡ looked vs n
unfolding looked found
looked_from [] n k = refl
looked_from (v ∷ vs) n k =
    ⊎_elim
    (λ (h : bears n v ≡ true). let z : k - k ≡ 0 = omega arith in rw h (ap (λ (j : ℕ). (get_or (v ∷ vs) j (variable [] [])).value) z))
    (λ (h : bears n v ≡ false). rw h (later v vs n k _ refl ∙ looked_from vs n (k + 1)))
    (cases_Bool (bears n v))

looked_at : (vs : List Variable) (o : Option ℕ) → value_at vs o ≡ found vs 0 o
unfolding found
looked_at vs None = refl
looked_at vs (Some i) = let z : i ≡ i - 0 = omega arith in ap (λ (j : ℕ). (get_or vs j (variable [] [])).value) z

looked_is : (vs : List Variable) (n : Bytes) → value_at vs (variable_at vs n) ≡ looked vs n
looked_is vs n = looked_at vs (variable_at vs n) ∙ looked_from vs n 0

module _ (n : Bytes) where
  differs : (m : Bytes) (v : Variable) → (m ≡ n → ⊥) → bears n v ≡ true → bears m v ≡ false
  differs m v ne h =
      ⊎_elim
      (λ (k : bears m v ≡ true). absurd (ne (sym ((bytes_eq-Decides v.name m).0 k) ∙ (bytes_eq-Decides v.name n).0 h)))
      (λ (k : bears m v ≡ false). k)
      (cases_Bool (bears m v))

  module _ (m : Bytes) (ne : m ≡ n → ⊥) where
    own_name : (t : Bytes) → bears m (variable n t) ≡ false
    own_name t = differs m (variable n t) ne ((bytes_eq-Decides n n).1 refl)

    set_other : (vs : List Variable) (k i : ℕ) (t : Bytes) → Some i ≡ first_from (bears n) k vs → looked (set vs (i - k) (variable n t)) m ≡ looked vs m
    unfolding looked
    set_other [] k i t e = refl
    set_other (v ∷ vs) k i t e =
        ⊎_elim
        (λ (h : bears n v ≡ true).
        let f : Some i ≡ Some k = rw h at e in
        let j : i ≡ k = cc in
        let z : i - k ≡ 0 = omega arith in
        rw (z, own_name t, differs m v ne h))
        (λ (h : bears n v ≡ false).
        let f : Some i ≡ first_from (bears n) (k + 1) vs = rw h at e in
        let w = first_within (bears n) vs (k + 1) i f in
        let z : i - k ≡ suc (i - (k + 1)) = omega arith in
        rw z (ap (λ (x : Bytes). cond (bears m v) v.value x) (set_other vs (k + 1) i t f)))
        (cases_Bool (bears n v))

    free_other : (vs : List Variable) (k i : ℕ) → Some i ≡ first_from (bears n) k vs → looked (remove vs (i - k)) m ≡ looked vs m
    unfolding looked
    free_other [] k i e = absurd (let z : ◌≡◌ {A = ℕ} 0 1 = cc in omega arith)
    free_other (v ∷ vs) k i e =
        ⊎_elim
        (λ (h : bears n v ≡ true).
        let f : Some i ≡ Some k = rw h at e in
        let j : i ≡ k = cc in
        let z : i - k ≡ 0 = omega arith in
        rw (z, differs m v ne h))
        (λ (h : bears n v ≡ false).
        let f : Some i ≡ first_from (bears n) (k + 1) vs = rw h at e in
        let w = first_within (bears n) vs (k + 1) i f in
        let z : i - k ≡ suc (i - (k + 1)) = omega arith in
        rw z (ap (λ (x : Bytes). cond (bears m v) v.value x) (free_other vs (k + 1) i f)))
        (cases_Bool (bears n v))

    add_other : (vs : List Variable) (t : Bytes) → looked (vs ++ variable n t ∷ []) m ≡ looked vs m
    unfolding looked
    add_other [] t = rw (own_name t)
    add_other (v ∷ vs) t = ap (λ (x : Bytes). cond (bears m v) v.value x) (add_other vs t)

    at_other : (vs us : List Variable) (t : Bytes) (o : Option ℕ) → o ≡ variable_at vs n → assigned_at vs n t o ≡ Ok us → looked us m ≡ looked vs m
    at_other vs us t None e q =
        ⊎_elim
        (λ (h : is_null t ≡ true). let f : ◌≡◌ {A = Result (List Variable) StoreFault} (Ok vs) (Ok us) = rw h at q in let g : us ≡ vs = cc in ap (λ (x : List Variable). looked x m) g)
        (λ (h : is_null t ≡ false).
        ⊎_elim
        (λ (l : ltb (length vs) 64 ≡ true).
        let f : ◌≡◌ {A = Result (List Variable) StoreFault} (Ok (vs ++ variable n t ∷ [])) (Ok us) = rw (h, l) at q in
        let g : us ≡ vs ++ variable n t ∷ [] = cc in
        ap (λ (x : List Variable). looked x m) g ∙ add_other vs t)
        (λ (l : ltb (length vs) 64 ≡ false).
        let f : ◌≡◌ {A = Result (List Variable) StoreFault} (Err TooManyVariables) (Ok us) = rw (h, l) at q in absurd (let z : ◌≡◌ {A = ℕ} 0 1 = cc in omega arith))
        (cases_Bool (ltb (length vs) 64)))
        (cases_Bool (is_null t))
    at_other vs us t (Some i) e q =
        let z : i - 0 ≡ i = omega arith in
        ⊎_elim
        (λ (h : is_null t ≡ true).
        let f : ◌≡◌ {A = Result (List Variable) StoreFault} (Ok (remove vs i)) (Ok us) = rw h at q in
        let g : us ≡ remove vs i = cc in
        ap (λ (x : List Variable). looked x m) g ∙ (rw z at (free_other vs 0 i e)))
        (λ (h : is_null t ≡ false).
        let f : ◌≡◌ {A = Result (List Variable) StoreFault} (Ok (set vs i (variable n t))) (Ok us) = rw h at q in
        let g : us ≡ set vs i (variable n t) = cc in
        ap (λ (x : List Variable). looked x m) g ∙ (rw z at (set_other vs 0 i t e)))
        (cases_Bool (is_null t))

-- no name of the table is an argument
is_argument : Kind → Bool
is_argument (Kind.kept k) = false
is_argument Kind.own = false
is_argument Kind.absent = false
is_argument (Kind.argument j) = true
is_argument Kind.ordinary = false

none_is : List (Bytes × Kind) → Bool
none_is [] = true
none_is (e ∷ es) = not (is_argument e.1) && none_is es

none_known : none_is known_names ≡ true
unfolding none_is is_argument
none_known = refl

no_argument : (es : List (Bytes × Kind)) (n : Bytes) (j : ℕ) → none_is es ≡ true → tabled es n ≡ Some (Kind.argument j) → ⊥
unfolding none_is is_argument
no_argument [] n j a e = let z : ◌≡◌ {A = ℕ} 0 1 = cc in omega arith
no_argument (x ∷ xs) n j a e =
    ⊎_elim
    (λ (h : bytes_eq x.0 n ≡ true).
    let f : ◌≡◌ {A = Option Kind} (Some x.1) (Some (Kind.argument j)) = rw h at e in
    let g : x.1 ≡ Kind.argument j = cc in
    let p = (and_parts _ _ a).0 in
    let q : not (is_argument (Kind.argument j)) ≡ true = ap (λ (k : Kind). not (is_argument k)) (sym g) ∙ p in
    true≢false (sym q))
    (λ (h : bytes_eq x.0 n ≡ false). no_argument xs n j (and_parts _ _ a).1 (rw h at e))
    (cases_Bool (bytes_eq x.0 n))

-- what a name's number is, where it is an argument
by_number : (j : ℕ) (o : Option ℕ) → numbered_or Kind.ordinary o ≡ Kind.argument j → o ≡ Some j
by_number j None e = absurd (let z : ◌≡◌ {A = ℕ} 0 1 = cc in omega arith)
by_number j (Some i) e = let f : i ≡ j = cc in ap (λ (x : ℕ). Some x) f

numbered_by : (n : Bytes) (j : ℕ) (o : Option Kind) → o ≡ tabled known_names n → unwrap_or o (numbered_or Kind.ordinary (index_of (drop 1 n))) ≡ Kind.argument j → index_of (drop 1 n) ≡ Some j
numbered_by n j None e q = by_number j (index_of (drop 1 n)) q
numbered_by n j (Some k) e q =
    let f : k ≡ Kind.argument j = q in
    absurd (no_argument known_names n j none_known (sym e ∙ ap (λ (x : Kind). Some x) f))

numbered : (n : Bytes) (j : ℕ) → kind_of n ≡ Kind.argument j → index_of (drop 1 n) ≡ Some j
unfolding kind_of
numbered n j q = numbered_by n j (tabled known_names n) refl q

module _ (c : Core) (n : Bytes) (amp : has_ampersand n ≡ true) (m : Bytes) (also : has_ampersand m ≡ true) (ne : m ≡ n → ⊥) where
  -- an argument changed: another name that is an argument has another number
  argument_kept : (ws : List Bytes) (t : Bytes) (j : ℕ) → kind_of n ≡ Kind.argument j → j ≤ length ws → length ws < 2 ^ 64 → (i : ℕ) → kind_of m ≡ Kind.argument i → get_or (set ws (j - 1) t) (i - 1) [] ≡ get_or ws (i - 1) []
  argument_kept ws t j p h l i q =
      let a = numbered n j p in
      let b = numbered m i q in
      let x = from_one (drop 1 n) j a in
      let y = from_one (drop 1 m) i b in
      let apart : i - 1 ≢ j - 1 = λ z.
      let s : i ≡ j = omega arith in
      ne (same_number m n j also amp (omega arith) (b ∙ ap (λ (k : ℕ). Some k) s) a) in
      get_or-set_other ws (j - 1) (i - 1) t [] apart

  kept_count : (ws : List Bytes) (k : KeptName) → length ws ≡ length c.arguments → kept_value (with_arguments c ws) k ≡ kept_value c k
  kept_count ws KeptName.ampersand e = refl
  kept_count ws KeptName.string e = refl
  kept_count ws KeptName.blank e = refl
  kept_count ws KeptName.coline e = refl
  kept_count ws KeptName.depth e = refl
  kept_count ws KeptName.from e = refl
  kept_count ws KeptName.count e = ap decimal e
  kept_count ws KeptName.line e = refl
  kept_count ws KeptName.link e = refl
  kept_count ws KeptName.code e = refl

  kept_variables : (vs : List Variable) (k : KeptName) → kept_value (with_variables c vs) k ≡ kept_value c k
  kept_variables vs KeptName.ampersand = refl
  kept_variables vs KeptName.string = refl
  kept_variables vs KeptName.blank = refl
  kept_variables vs KeptName.coline = refl
  kept_variables vs KeptName.depth = refl
  kept_variables vs KeptName.from = refl
  kept_variables vs KeptName.count = refl
  kept_variables vs KeptName.line = refl
  kept_variables vs KeptName.link = refl
  kept_variables vs KeptName.code = refl

  by_argument : (t : Bytes) (j : ℕ) → kind_of n ≡ Kind.argument j → j ≤ length c.arguments → length c.arguments < 2 ^ 64 → (k : Kind) → k ≡ kind_of m → value_by (with_arguments c (set c.arguments (j - 1) t)) m k ≡ value_by c m k
  by_argument t j p h l (Kind.kept k) e = ap (λ (v : Bytes). Some v) (kept_count (set c.arguments (j - 1) t) k (length-set _ _ _))
  by_argument t j p h l Kind.own e = refl
  by_argument t j p h l Kind.absent e = refl
  by_argument t j p h l (Kind.argument i) e = ap (λ (v : Bytes). Some v) (argument_kept c.arguments t j p h l i (sym e))
  by_argument t j p h l Kind.ordinary e = refl

  by_variable : (vs : List Variable) (t : Bytes) → assigned_to c.variables n t ≡ Ok vs → (k : Kind) → value_by (with_variables c vs) m k ≡ value_by c m k
  by_variable vs t e (Kind.kept k) = ap (λ (v : Bytes). Some v) (kept_variables vs k)
  by_variable vs t e Kind.own = refl
  by_variable vs t e Kind.absent = refl
  by_variable vs t e (Kind.argument i) = refl
  by_variable vs t e Kind.ordinary =
      ap (λ (v : Bytes). Some v)
      (looked_is vs m ∙ at_other n m ne c.variables vs t (variable_at c.variables n) refl e ∙ sym (looked_is c.variables m))

  variable_set : (t : Bytes) (d : Core) (r : Result (List Variable) StoreFault) → r ≡ assigned_to c.variables n t → (r >>= λ vs. Ok (with_variables c vs)) ≡ Ok d → value_of d m ≡ value_of c m
  variable_set t d (Ok vs) e q = let f : d ≡ with_variables c vs = cc in ap (λ (x : Core). value_of x m) f ∙ by_variable vs t (sym e) (kind_of m)
  variable_set t d (Err f) e q = absurd (let z : ◌≡◌ {A = ℕ} 0 1 = cc in omega arith)

  argument_set : (t : Bytes) (d : Core) (j : ℕ) → kind_of n ≡ Kind.argument j → length c.arguments < 2 ^ 64 → (b s : Bool) → s ≡ leb j (length c.arguments) → (must s CannotBeSet >> (must b ListTooLong >> Ok (with_arguments c (set c.arguments (j - 1) t)))) ≡ Ok d → value_of d m ≡ value_of c m
  argument_set t d j p l true true e q =
      let f : d ≡ with_arguments c (set c.arguments (j - 1) t) = cc in
      ap (λ (x : Core). value_of x m) f ∙ by_argument t j p (leb-true _ _ (sym e)) l (kind_of m) refl
  argument_set t d j p l false true e q = absurd (let z : ◌≡◌ {A = ℕ} 0 1 = cc in omega arith)
  argument_set t d j p l b false e q = absurd (let z : ◌≡◌ {A = ℕ} 0 1 = cc in omega arith)

  put_by_lem : (t : Bytes) (d : Core) → length c.arguments < 2 ^ 64 → (k : Kind) → k ≡ kind_of n → (must (settable_by c k) CannotBeSet >> put_by c n t k) ≡ Ok d → value_of d m ≡ value_of c m
  put_by_lem t d l (Kind.kept k) e q = absurd (let z : ◌≡◌ {A = ℕ} 0 1 = cc in omega arith)
  put_by_lem t d l Kind.own e q = absurd (let z : ◌≡◌ {A = ℕ} 0 1 = cc in omega arith)
  put_by_lem t d l Kind.absent e q = absurd (let z : ◌≡◌ {A = ℕ} 0 1 = cc in omega arith)
  put_by_lem t d l (Kind.argument j) e q = argument_set t d j (sym e) l _ _ refl q
  put_by_lem t d l Kind.ordinary e q = variable_set t d _ refl q

pub others_kept : (c d : Core) (n t : Bytes) → length c.arguments < 2 ^ 64 → has_ampersand n ≡ true → put c n t ≡ Ok d → OthersKept n c d
others_kept c d n t l amp e m also ne = put_by_lem c n amp m also ne t d l (kind_of n) refl e
