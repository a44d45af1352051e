-- A list that goes round: one more at either end, and the first taken out.
use Rattle.std.proofs.Common.{◌≡◌, ℕ, suc, ◌+◌, ◌-◌, ◌<◌, ◌≤◌, ◌≢◌, List, [], ◌∷◌, ◌++◌, length, get_or, take, drop, set, sym, ap, ◌∙◌, ⊎_elim, arith, length-append, length-drop, length-set, length-take}
use Rattle.std.proofs.lemmas.List.{take-append-le, drop_at, drop_more, get_or-take, get_or-drop, get_or_append_left, get_or-append_right, get_or-set_same, get_or-set_other, get_or_push, length_push, same_lists}
use Rattle.std.proofs.lemmas.Bool.{cases_lt, lt-ltb, le-ltb}
use Rattle.tables.specs.Tables.{wrapped, around}

wrapped_low : (n i : ℕ) → i < n → wrapped n i ≡ i
wrapped_low n i h = rw (lt-ltb i n h)

wrapped_high : (n i : ℕ) → n ≤ i → wrapped n i ≡ i - n
wrapped_high n i h = rw (le-ltb i n h)

module _ {A : Type 0} (n : ℕ) where
  -- the place in the list of one in the round
  twice_at : (xs : List A) (i : ℕ) (d : A) → length xs ≡ n → get_or (xs ++ xs) i d ≡ get_or xs (wrapped n i) d
  twice_at xs i d w =
      ⊎_elim
      (λ (h : i < n). get_or_append_left xs xs d i (omega arith) ∙ ap (λ (j : ℕ). get_or xs j d) (sym (wrapped_low n i h)))
      (λ (h : n ≤ i). get_or-append_right xs xs n i d w h ∙ ap (λ (j : ℕ). get_or xs j d) (sym (wrapped_high n i h)))
      (cases_lt i n)

  around_at : (xs : List A) (first count k : ℕ) (d : A) → length xs ≡ n → k < count → get_or (around first count xs) k d ≡ get_or xs (wrapped n (first + k)) d
  around_at xs first count k d w h =
      get_or-take count (drop first (xs ++ xs)) k d h ∙ get_or-drop first (xs ++ xs) k d ∙ twice_at xs (first + k) d w

  pub length-around : (xs : List A) (first count : ℕ) → length xs ≡ n → first < n → count ≤ n → length (around first count xs) ≡ count
  length-around xs first count w f h = simp (length-take, length-drop, length-append) (omega arith)

  module _ (xs : List A) (w : length xs ≡ n) (first count : ℕ) (f : first < n) where
    apart : (k : ℕ) → k < count → count < n → wrapped n (first + k) ≢ wrapped n (first + count)
    apart k h l e =
        ⊎_elim
        (λ (a : first + k < n).
        ⊎_elim
        (λ (b : first + count < n). omega (arith, wrapped_low n (first + k) a, wrapped_low n (first + count) b))
        (λ (b : n ≤ first + count). omega (arith, wrapped_low n (first + k) a, wrapped_high n (first + count) b))
        (cases_lt (first + count) n))
        (λ (a : n ≤ first + k).
        ⊎_elim
        (λ (b : first + count < n). omega arith)
        (λ (b : n ≤ first + count). omega (arith, wrapped_high n (first + k) a, wrapped_high n (first + count) b))
        (cases_lt (first + count) n))
        (cases_lt (first + k) n)

    low : (k : ℕ) → k ≤ n → wrapped n (first + k) < n
    low k h =
        ⊎_elim
        (λ (a : first + k < n). omega (arith, wrapped_low n (first + k) a))
        (λ (a : n ≤ first + k). omega (arith, wrapped_high n (first + k) a))
        (cases_lt (first + k) n)

    module _ (p : ℕ) (y : A) (e : p ≡ wrapped n (first + count)) (l : count < n) where
      set_whole : length (set xs p y) ≡ n
      set_whole = rw length-set w

      last_at : (k : ℕ) (d : A) → k < count + 1 → get_or (around first (count + 1) (set xs p y)) k d ≡ get_or (around first count xs ++ y ∷ []) k d
      last_at k d h =
          let m = length-around xs first count w f (omega arith) in
          ⊎_elim
          (λ (b : k < count).
          let ne : wrapped n (first + k) ≢ p = λ q. apart k b l (q ∙ e) in
          around_at (set xs p y) first (count + 1) k d set_whole h
          ∙ get_or-set_other xs p (wrapped n (first + k)) y d ne
          ∙ sym (around_at xs first count k d w b)
          ∙ sym (get_or_append_left (around first count xs) (y ∷ []) d k (omega arith)))
          (λ (b : count ≤ k).
          let q : k ≡ count = omega arith in
          let b : p < length xs = omega (arith, low count (omega arith)) in
          around_at (set xs p y) first (count + 1) k d set_whole h
          ∙ ap (λ (j : ℕ). get_or (set xs p y) (wrapped n (first + j)) d) q
          ∙ ap (λ (j : ℕ). get_or (set xs p y) j d) (sym e)
          ∙ get_or-set_same xs p y d b
          ∙ sym (get_or_push (around first count xs) y d k (omega arith)))
          (cases_lt k count)

      pub around_last : around first (count + 1) (set xs p y) ≡ around first count xs ++ y ∷ []
      around_last =
          let a = length-around xs first count w f (omega arith) in
          let b = length-around (set xs p y) first (count + 1) set_whole f (omega arith) in
          let c = length_push (around first count xs) y in
          same_lists _ _ (omega arith) (λ k d h. last_at k d (omega arith))

    -- from the place after the first on
    onward : 0 < count → count ≤ n → take (count - 1) (drop (first + 1) (xs ++ xs)) ≡ around (wrapped n (first + 1)) (count - 1) xs
    onward h l =
        ⊎_elim
        (λ (a : first + 1 < n). ap (λ (j : ℕ). take (count - 1) (drop j (xs ++ xs))) (sym (wrapped_low n (first + 1) a)))
        (λ (a : n ≤ first + 1).
        let q : first + 1 ≡ n = omega arith in
        let z : first + 1 - n ≡ 0 = omega arith in
        ap (λ (j : ℕ). take (count - 1) (drop j (xs ++ xs))) q
        ∙ ap (take (count - 1)) (drop_at xs xs n w)
        ∙ sym (take-append-le (count - 1) xs xs (omega arith))
        ∙ ap (λ (j : ℕ). take (count - 1) (drop j (xs ++ xs))) (sym (wrapped_high n (first + 1) a ∙ z)))
        (cases_lt (first + 1) n)

    pub around_first : (d : A) → 0 < count → count ≤ n → around first count xs ≡ get_or xs first d ∷ around (wrapped n (first + 1)) (count - 1) xs
    around_first d h l =
        let one : count ≡ suc (count - 1) = omega arith in
        let b : first < length (xs ++ xs) = rw length-append (omega arith) in
        ap (take count) (drop_more (xs ++ xs) first d b)
        ∙ ap (λ (m : ℕ). take m (get_or (xs ++ xs) first d ∷ drop (first + 1) (xs ++ xs))) one
        ∙ ap (λ (x : A). x ∷ take (count - 1) (drop (first + 1) (xs ++ xs))) (get_or_append_left xs xs d first (omega arith))
        ∙ ap (λ (ys : List A). get_or xs first d ∷ ys) (onward h l)

    -- a write to a place that is not in the round
    around_other : (p : ℕ) (y : A) → count ≤ n → ((k : ℕ) → k < count → wrapped n (first + k) ≢ p) → around first count (set xs p y) ≡ around first count xs
    around_other p y l ne =
        let s : length (set xs p y) ≡ n = rw length-set w in
        let a = length-around xs first count w f l in
        let b = length-around (set xs p y) first count s f l in
        same_lists _ _ (omega arith)
        (λ k d h.
        let m : k < count = omega arith in
        around_at (set xs p y) first count k d s m
        ∙ get_or-set_other xs p (wrapped n (first + k)) y d (ne k m)
        ∙ sym (around_at xs first count k d w m))

    before : 0 < n → (wrapped n (first + (n - 1)) < n) × (wrapped n (wrapped n (first + (n - 1)) + 1) ≡ first)
    before z =
        ⊎_elim
        (λ (a : first + (n - 1) < n).
        let p = wrapped_low n (first + (n - 1)) a in
        let q : wrapped n (first + (n - 1)) + 1 ≡ n = omega arith in
        (omega arith, ap (wrapped n) q ∙ wrapped_high n n (omega arith) ∙ omega arith))
        (λ (a : n ≤ first + (n - 1)).
        let p = wrapped_high n (first + (n - 1)) a in
        let q : wrapped n (first + (n - 1)) + 1 ≡ first = omega arith in
        (omega arith, ap (wrapped n) q ∙ wrapped_low n first f))
        (cases_lt (first + (n - 1)) n)

    -- the place before the first is none of those in use
    free : count < n → (k : ℕ) → k < count → wrapped n (first + k) ≢ wrapped n (first + (n - 1))
    free l k h e =
        ⊎_elim
        (λ (a : first + (n - 1) < n).
        ⊎_elim
        (λ (b : first + k < n). omega (arith, wrapped_low n (first + (n - 1)) a, wrapped_low n (first + k) b))
        (λ (b : n ≤ first + k). omega arith)
        (cases_lt (first + k) n))
        (λ (a : n ≤ first + (n - 1)).
        ⊎_elim
        (λ (b : first + k < n). omega (arith, wrapped_high n (first + (n - 1)) a, wrapped_low n (first + k) b))
        (λ (b : n ≤ first + k). omega (arith, wrapped_high n (first + (n - 1)) a, wrapped_high n (first + k) b))
        (cases_lt (first + k) n))
        (cases_lt (first + (n - 1)) n)

module _ {A : Type 0} (n : ℕ) (xs : List A) (w : length xs ≡ n) (first count p : ℕ) (y : A) where
  pub around_before : first < n → count < n → p ≡ wrapped n (first + (n - 1)) → around p (count + 1) (set xs p y) ≡ y ∷ around first count xs
  around_before f l e =
      let s : length (set xs p y) ≡ n = rw length-set w in
      let b = before n xs w first count f (omega arith) in
      let m : p < n = omega arith in
      let i : wrapped n (p + 1) ≡ first = ap (λ (j : ℕ). wrapped n (j + 1)) e ∙ b.1 in
      let z : count + 1 - 1 ≡ count = omega arith in
      around_first n (set xs p y) s p (count + 1) m y (omega arith) (omega arith)
      ∙ ap (λ (x : A). x ∷ around (wrapped n (p + 1)) (count + 1 - 1) (set xs p y)) (get_or-set_same xs p y y (omega arith))
      ∙ ap (λ (j : ℕ). y ∷ around j (count + 1 - 1) (set xs p y)) i
      ∙ ap (λ (j : ℕ). y ∷ around first j (set xs p y)) z
      ∙ ap (λ (ys : List A). y ∷ ys) (around_other n xs w first count f p y (omega arith) (λ k h q. free n xs w first count f l k h (q ∙ e)))
