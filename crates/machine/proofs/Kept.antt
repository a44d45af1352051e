-- Where the calls have led is where so many steps lead with the lines typed.
use Rattle.std.proofs.Common.{◌≡◌, ℕ, zero, suc, ◌+◌, ◌-◌, ◌≤◌, Bool, true, false, cond, ltb, leb, List, [], ◌∷◌, ◌++◌, length, Some, None, Option, sym, refl, ap, ◌∙◌, append_assoc, append-nil, arith}
use Rattle.std.proofs.lemmas.Bool.{cond_both}
use Rattle.machine.specs.Calls.{Call, Reply, most_waiting, most_steps, least_page, value_buffer, report_buffer, still, entered, went, showing, typable, running, reply}
use Rattle.machine.specs.Calls.Call.{enter, go, value, report}
use Rattle.machine.specs.Calls.Answer.{refused, told}
use Rattle.machine.specs.Courses.{Course, begun, extended, course}
use Rattle.machine.specs.Machines.{Line, Machine, State, Deeds, nothing, ◌then◌, Outcome, step}
use Rattle.machine.specs.Machines.Outcome.{waits, goes}
use Rattle.machine.specs.Runs.{Ran, halt, tried, run}
use Rattle.machine.specs.declared.reason.Reason.{Reason}
use Rattle.machine.proofs.Walks.{then_assoc, then_nothing, more, stepped, walk, walk_suc, walk_more}

module _ {C : Type 0} (M : Machine C) (width : ℕ) where
  -- so many steps from a start lead to a state; then to where a run comes from there
  abbrev Reached : State C → ℕ → Deeds → State C → Type 0
  Reached start n d s = walk M width n start ≡ goes d s

  record After (start : State C) (n : ℕ) (d : Deeds) (s : State C) (r : Ran C) : Type 0 where
    grows : s.steps ≤ r.state.steps
    there : Reached start (n + (r.state.steps - s.steps)) (d then r.deeds) r.state

  at_rest : (start : State C) (n : ℕ) (d : Deeds) (s : State C) (why : Reason) → Reached start n d s → After start n d s (halt why s)
  at_rest start n d s why h =
      let z : n + (s.steps - s.steps) ≡ n = omega arith in
      record { grows = omega arith; there = ap (λ m. walk M width m start) z ∙ h ∙ ap (λ e. goes e s) (sym (then_nothing d)) }

  after_tried :
      (start : State C) (n : ℕ) (d : Deeds) (s : State C) (room : ℕ) (rest : ℕ → State C → Ran C) (o : Outcome C)
      → Reached start n d s
      → step M width s ≡ o
      → ((left m : ℕ) (e : Deeds) (t : State C) → Reached start m e t → After start m e t (rest left t))
      → After start n d s (tried s room o rest)
  after_tried start n d s room rest waits h q ih = at_rest start n d s Reason.Waiting h
  after_tried start n d s room rest (goes e t) h q ih =
      let left : ℕ = room - length e.printed in
      let r : Ran C = rest left t in
      let k = ih left (suc n) (d then e) t (walk_suc M width n start s t d e h q) in
      let c : t.steps ≡ suc s.steps = (stepped M width s e t q).count in
      let low : t.steps ≤ r.state.steps = k.grows in
      let m : n + (r.state.steps - s.steps) ≡ suc n + (r.state.steps - t.steps) = omega arith in
      cond_both (leb (length e.printed) room) _ _ (After start n d s)
      (λ _.
      record {
        grows = omega arith;
        there = ap (λ i. walk M width i start) m ∙ k.there ∙ ap (λ x. goes x r.state) (then_assoc d e r.deeds);
      })
      (λ _. at_rest start n d s Reason.Full h)

  after_run :
      (budget room : ℕ) (start : State C) (n : ℕ) (d : Deeds) (s : State C)
      → Reached start n d s → After start n d s (run M width budget room s)
  after_run zero room start n d s h =
      cond_both (M.ended s.core) _ _ (After start n d s) (λ _. at_rest start n d s Reason.Ended h) (λ _. at_rest start n d s Reason.Spent h)
  after_run (suc budget) room start n d s h =
      cond_both (M.ended s.core) _ _ (After start n d s) (λ _. at_rest start n d s Reason.Ended h)
      (λ _.
      after_tried start n d s room (run M width budget) (step M width s) h refl
      (λ left m e t k. after_run budget left start m e t k))

  -- what a course has done
  abbrev pub deeds_of : Course C → Deeds
  deeds_of p = record { printed = p.printed; issued = p.issued; stacked = p.stacked; read = p.read }

  -- the session is what its steps give over its typed lines, and they are counted
  pub record Kept (start : State C) (p : Course C) : Type 0 where
    pub reached : Reached (more p.typed start) p.taken (deeds_of p) p.state
    pub counted : p.state.steps ≡ start.steps + p.taken

  -- a call that did nothing: nothing is typed, printed, issued, counted
  unchanged : (start : State C) (p : Course C) → Kept start p → Kept start (record { state = p.state; typed = p.typed ++ []; printed = p.printed ++ []; issued = p.issued ++ []; taken = p.taken + 0; stacked = p.stacked + 0; read = p.read + 0 })
  unchanged start p k =
      let z : p.taken + 0 ≡ p.taken = omega arith in
      record {
        reached =
            ap (λ ts. walk M width (p.taken + 0) (more ts start)) (append-nil p.typed)
            ∙ ap (λ n. walk M width n (more p.typed start)) z
            ∙ k.reached
            ∙ ap (λ e. goes e p.state) (sym (then_nothing (deeds_of p)));
        counted = omega (arith, k.counted);
      }

  -- lines typed at once or one after the other
  more_more : (ts ls : List Line) (s : State C) → more ls (more ts s) ≡ more (ts ++ ls) s
  more_more ts ls s =
      ap (λ (ws : List Line). record { core = s.core; stack = s.stack; waiting = ws; steps = s.steps; book = s.book }) (append_assoc s.waiting ts ls)

  -- the session with more lines typed than it was given
  pub given_more : (start : State C) (p : Course C) (ls : List Line) → Kept start p → Reached (more (p.typed ++ ls) start) p.taken (deeds_of p) (more ls p.state)
  given_more start p ls k =
      ap (walk M width p.taken) (sym (more_more p.typed ls start))
      ∙ walk_more M width p.taken ls (more p.typed start) (deeds_of p) p.state k.reached

  keeps_entered : (start : State C) (p : Course C) (l : Line) → Kept start p → Kept start (extended p (enter l) (entered l p.state))
  keeps_entered start p l k =
      let z : p.taken + 0 ≡ p.taken = omega arith in
      record {
        reached =
            ap (λ n. walk M width n (more (p.typed ++ l ∷ []) start)) z
            ∙ given_more start p (l ∷ []) k
            ∙ ap (λ e. goes e (more (l ∷ []) p.state)) (sym (then_nothing (deeds_of p)));
        counted = omega (arith, k.counted);
      }

  keeps_went : (start : State C) (p : Course C) (n page : ℕ) → Kept start p → Kept start (extended p (go n page) (went p.state (run M width n page p.state)))
  keeps_went start p n page k =
      let a = after_run n page (more p.typed start) p.taken (deeds_of p) p.state k.reached in
      let low = a.grows in
      let r : Ran C = run M width n page p.state in
      record {
        reached =
            ap (λ ts. walk M width (p.taken + (r.state.steps - p.state.steps)) (more ts start)) (append-nil p.typed)
            ∙ a.there;
        counted = omega (arith, k.counted);
      }

  -- a reply under one test and under three
  by_one : (P : Reply C → Type 0) (a : Bool) (x y : Reply C) → P x → P y → P (cond a x y)
  by_one P true x y h k = h
  by_one P false x y h k = k

  by_three : (P : Reply C → Type 0) (a b c : Bool) (w x y z : Reply C) → P w → P x → P y → P z → P (cond a (cond b (cond c w x) y) z)
  by_three P a b c w x y z h i j k = by_one P a _ z (by_one P b _ y (by_one P c w x h i) j) k

  keeps_shown : (start : State C) (p : Course C) (name : List ℕ) (buffer : ℕ) (o : Option (List ℕ)) → Kept start p → Kept start (extended p (value name buffer) (showing buffer o p.state))
  keeps_shown start p name buffer None k = unchanged start p k
  keeps_shown start p name buffer (Some v) k =
      by_one (λ r. Kept start (extended p (value name buffer) r)) (ltb buffer value_buffer) (still (refused 14) p.state) (still (told v) p.state)
      (unchanged start p k) (unchanged start p k)

  keeps_call : (start : State C) (p : Course C) (c : Call) → Kept start p → Kept start (extended p c (reply M width c p.state))
  keeps_call start p (enter l) k =
      let s : State C = p.state in
      by_three (λ r. Kept start (extended p (enter l) r)) (running M width s) (typable l) (ltb (length s.waiting) most_waiting)
      (entered l s) (still (refused 9) s) (still (refused 8) s) (still (refused 7) s)
      (keeps_entered start p l k) (unchanged start p k) (unchanged start p k) (unchanged start p k)
  keeps_call start p (go n page) k =
      let s : State C = p.state in
      by_three (λ r. Kept start (extended p (go n page) r)) (running M width s) (leb (least_page width) page) (leb (s.steps + n) most_steps)
      (went s (run M width n page s)) (still (refused 12) s) (still (refused 11) s) (still (refused 10) s)
      (keeps_went start p n page k) (unchanged start p k) (unchanged start p k) (unchanged start p k)
  keeps_call start p (value name buffer) k = keeps_shown start p name buffer (M.value p.state.core name) k
  keeps_call start p (report buffer) k =
      by_one (λ r. Kept start (extended p (report buffer) r)) (ltb buffer report_buffer) (still (refused 15) p.state) (still (told (M.report p.state.core p.state.steps)) p.state)
      (unchanged start p k) (unchanged start p k)

  kept_on : (start : State C) (ks : List Call) (p : Course C) → Kept start p → Kept start (course M width ks p)
  kept_on start [] p k = k
  kept_on start (c ∷ cs) p k = kept_on start cs (extended p c (reply M width c p.state)) (keeps_call start p c k)

  pub kept : (start : State C) (ks : List Call) → Kept start (course M width ks (begun start))
  kept start ks =
      kept_on start ks (begun start)
      (record {
        reached = ap (λ (ws : List Line). goes nothing (record { core = start.core; stack = start.stack; waiting = ws; steps = start.steps; book = start.book })) (append-nil start.waiting);
        counted = omega arith;
      })
