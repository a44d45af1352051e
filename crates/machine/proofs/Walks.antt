-- Steps that no call hinders, and what a number of them gives.
use Rattle.std.proofs.Common.{◌≡◌, ℕ, zero, suc, ◌+◌, List, [], ◌∷◌, ◌++◌, length, sym, refl, ap, ◌∙◌, subst, append_assoc, append-nil, add-zero, add_assoc, suc-add, zero-add, arith, length-append}
use Rattle.machine.specs.Laws.{Begins}
use Rattle.machine.specs.Machines.{Line, Action, Machine, State, Deeds, nothing, ◌then◌, Outcome, reading, acting, step}
use Rattle.machine.specs.Machines.Action.{moves, prints, issues, reads}
use Rattle.machine.specs.Machines.Outcome.{waits, goes}
use Rattle.machine.specs.Machines.Stacking.{none, first, last}

pub then_assoc : (a b c : Deeds) → (a then b) then c ≡ a then (b then c)
then_assoc a b c =
    λ i.
    record {
      printed = append_assoc a.printed b.printed c.printed i;
      issued = append_assoc a.issued b.issued c.issued i;
      stacked = add_assoc a.stacked b.stacked c.stacked i;
      read = add_assoc a.read b.read c.read i;
    }

pub then_nothing : (a : Deeds) → a then nothing ≡ a
then_nothing a =
    λ i.
    record {
      printed = append-nil a.printed i;
      issued = append-nil a.issued i;
      stacked = add-zero a.stacked i;
      read = add-zero a.read i;
    }

begins_same : {A : Type 0} (xs ys : List A) → xs ≡ ys → Begins xs ys
begins_same xs ys e = ([], append-nil xs ∙ e)

begins_on : {A : Type 0} (xs ys zs more : List A) → Begins xs ys → ys ++ more ≡ zs → Begins xs zs
begins_on xs ys zs more b e = (b.0 ++ more, sym (append_assoc xs b.0 more) ∙ ap (λ l. l ++ more) b.1 ∙ e)

-- a state with more lines typed
abbrev pub more : {C : Type 0} → List Line → State C → State C
more ls s = record { core = s.core; stack = s.stack; waiting = s.waiting ++ ls; steps = s.steps; book = s.book }

abbrev more_out : {C : Type 0} → List Line → Outcome C → Outcome C
more_out ls waits = waits
more_out ls (goes d t) = goes d (more ls t)

module _ {C : Type 0} (M : Machine C) (width : ℕ) where
  -- what holds of a step that goes: it counts one, it goes as well with more lines typed, and no line is lost
  pub record Stepped (m n w : ℕ) (later : List Line → Outcome C) (d : Deeds) (t : State C) : Type 0 where
    pub count : t.steps ≡ suc m
    pub same : (ls : List Line) → later ls ≡ goes d (more ls t)
    pub balance : n + w + d.stacked ≡ d.read + length t.stack + length t.waiting

  abbrev Good : (m n w : ℕ) (later : List Line → Outcome C) → Outcome C → Type 0
  Good m n w later waits = Unit {0}
  Good m n w later (goes d t) = Stepped m n w later d t

  good_read :
      (s : State C) (k : Line → C) (st ws : List Line)
      → Good s.steps (length st) (length ws) (λ ls. reading (more ls s) k st (ws ++ ls)) (reading s k st ws)
  good_read s k (l ∷ st) ws = record { count = refl; same = λ ls. refl; balance = omega arith }
  good_read s k [] (l ∷ ws) = record { count = refl; same = λ ls. refl; balance = omega arith }
  good_read s k [] [] = tt

  good_act :
      (s : State C) (a : Action C)
      → Good s.steps (length s.stack) (length s.waiting) (λ ls. acting width (more ls s) a) (acting width s a)
  good_act s (moves none c) = record { count = refl; same = λ ls. refl; balance = omega arith }
  good_act s (moves (first l) c) = record { count = refl; same = λ ls. refl; balance = omega arith }
  good_act s (moves (last l) c) =
      record { count = refl; same = λ ls. refl; balance = omega (arith, length-append s.stack (l ∷ [])) }
  good_act s (prints l c) = record { count = refl; same = λ ls. refl; balance = omega arith }
  good_act s (issues p k) = record { count = refl; same = λ ls. refl; balance = omega arith }
  good_act s (reads k) = good_read s k s.stack s.waiting

  abbrev StepsTo : State C → Outcome C → Type 0
  StepsTo s = Good s.steps (length s.stack) (length s.waiting) (λ ls. step M width (more ls s))

  pub stepped : (s : State C) (d : Deeds) (t : State C) → step M width s ≡ goes d t → StepsTo s (goes d t)
  stepped s d t e = subst (StepsTo s) e (good_act s (M.act s.core s.stack))

  -- so many steps, one after the other
  abbrev onto : Deeds → Outcome C → Outcome C
  onto d waits = waits
  onto d (goes e t) = goes (d then e) t

  abbrev next : Outcome C → Outcome C
  next waits = waits
  next (goes d s) = onto d (step M width s)

  abbrev pub walk : ℕ → State C → Outcome C
  walk zero s = goes nothing s
  walk (suc n) s = next (walk n s)

  pub walk_suc :
      (n : ℕ) (s t u : State C) (d e : Deeds)
      → walk n s ≡ goes d t → step M width t ≡ goes e u → walk (suc n) s ≡ goes (d then e) u
  walk_suc n s t u d e p q = ap next p ∙ ap (onto d) q

  -- the last of the steps
  record Last (n : ℕ) (s : State C) (d : Deeds) (t : State C) : Type 0 where
    done : Deeds
    from : State C
    added : Deeds
    before : walk n s ≡ goes done from
    one : step M width from ≡ goes added t
    sum : done then added ≡ d

  last_of :
      (n : ℕ) (s : State C) (d : Deeds) (t : State C) (done : Deeds) (from : State C) (o : Outcome C)
      → walk n s ≡ goes done from → step M width from ≡ o → onto done o ≡ goes d t → Last n s d t
  last_of n s d t done from waits p q h = absurd (let z : ◌≡◌ {A = ℕ} 0 1 = cc in omega arith)
  last_of n s d t done from (goes e u) p q h =
      let same : u ≡ t = cc in
      record { done = done; from = from; added = e; before = p; one = q ∙ ap (goes e) same; sum = cc }

  last_by :
      (n : ℕ) (s : State C) (d : Deeds) (t : State C) (o : Outcome C) → walk n s ≡ o → next o ≡ goes d t → Last n s d t
  last_by n s d t waits p h = absurd (let z : ◌≡◌ {A = ℕ} 0 1 = cc in omega arith)
  last_by n s d t (goes e u) p h = last_of n s d t e u (step M width u) p refl h

  walk_last : (n : ℕ) (s : State C) (d : Deeds) (t : State C) → walk (suc n) s ≡ goes d t → Last n s d t
  walk_last n s d t h = last_by n s d t (walk n s) refl h

  -- the same steps are taken where more lines are typed
  pub walk_more :
      (n : ℕ) (ls : List Line) (s : State C) (d : Deeds) (t : State C)
      → walk n s ≡ goes d t → walk n (more ls s) ≡ goes d (more ls t)
  walk_more zero ls s d t h = ap (more_out ls) h
  walk_more (suc n) ls s d t h =
      let l = walk_last n s d t h in
      let p = walk_more n ls s l.done l.from l.before in
      walk_suc n (more ls s) (more ls l.from) (more ls t) l.done l.added p ((stepped l.from l.added t l.one).same ls)
      ∙ ap (λ e. goes e (more ls t)) l.sum

  -- more steps print and issue more
  pub walk_begins :
      (k n : ℕ) (s : State C) (d e : Deeds) (t u : State C)
      → walk n s ≡ goes d t → walk (k + n) s ≡ goes e u
      → Begins d.printed e.printed × Begins d.issued e.issued
  walk_begins zero n s d e t u p q =
      let q' : walk n s ≡ goes e u = rw zero-add at q in
      let same : d ≡ e = cc in
      (begins_same d.printed e.printed (ap (λ x. x.printed) same), begins_same d.issued e.issued (ap (λ x. x.issued) same))
  walk_begins (suc k) n s d e t u p q =
      let q' : walk (suc (k + n)) s ≡ goes e u = rw suc-add at q in
      let l = walk_last (k + n) s e u q' in
      let b = walk_begins k n s d l.done t l.from p l.before in (
        begins_on d.printed l.done.printed e.printed l.added.printed b.0 (ap (λ x. x.printed) l.sum),
        begins_on d.issued l.done.issued e.issued l.added.issued b.1 (ap (λ x. x.issued) l.sum),
      )

  -- no line is lost
  abbrev Evens : State C → Outcome C → Type 0
  Evens s waits = Unit {0}
  Evens s (goes d t) =
      length s.stack + length s.waiting + d.stacked ≡ d.read + length t.stack + length t.waiting

  pub walk_balance : (n : ℕ) (s : State C) (d : Deeds) (t : State C) → walk n s ≡ goes d t → Evens s (goes d t)
  walk_balance zero s d t h =
      subst (Evens s) h
      (let e : length s.stack + length s.waiting + 0 ≡ 0 + length s.stack + length s.waiting = omega arith in e)
  walk_balance (suc n) s d t h =
      let l = walk_last n s d t h in
      let p = walk_balance n s l.done l.from l.before in
      let q = (stepped l.from l.added t l.one).balance in
      omega (arith, ap (λ x. x.stacked) l.sum, ap (λ x. x.read) l.sum)
