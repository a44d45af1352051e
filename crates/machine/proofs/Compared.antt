-- Any two courses from equal starts compare.
use Rattle.std.proofs.Common.{◌≡◌, ℕ, ◌+◌, ◌-◌, ◌≤◌, ◌⊎◌, List, [], ◌++◌, sym, ap, ◌∙◌, subst, inl, inr, append-nil, arith, length-append}
use Rattle.machine.specs.Courses.{Course, begun, course}
use Rattle.machine.specs.Laws.{Begins, Alike, Balanced, Compares}
use Rattle.machine.specs.Machines.{Line, Machine, State}
use Rattle.machine.specs.Machines.Outcome.{goes}
use Rattle.machine.proofs.Walks.{more, walk, walk_begins, walk_balance}
use Rattle.machine.proofs.Kept.{deeds_of, Kept, given_more, kept}

module _ {C : Type 0} (M : Machine C) (width : ℕ) where
  -- both reached from one start
  both :
      (start : State C) (p q : Course C) (ls ms : List Line)
      → walk M width p.taken start ≡ goes (deeds_of M width p) (more ls p.state)
      → walk M width q.taken start ≡ goes (deeds_of M width q) (more ms q.state)
      → Alike p q
  both start p q ls ms h k =
      record {
        prints = λ le. (begins le).0;
        issues = λ le. (begins le).1;
        cores = λ e. ap (λ s. s.core) (same e);
        stacks = λ e. ap (λ s. s.stack) (same e);
        books = λ e. ap (λ s. s.book) (same e);
      }
    where
      begins : p.taken ≤ q.taken → Begins p.printed q.printed × Begins p.issued q.issued
      begins le =
          let e : q.taken ≡ (q.taken - p.taken) + p.taken = omega arith in
          walk_begins M width (q.taken - p.taken) p.taken start (deeds_of M width p) (deeds_of M width q) (more ls p.state) (more ms q.state) h
          (subst (λ n. walk M width n start ≡ goes (deeds_of M width q) (more ms q.state)) e k)

      same : p.taken ≡ q.taken → more ls p.state ≡ more ms q.state
      same e =
          let f : goes (deeds_of M width p) (more ls p.state) ≡ goes (deeds_of M width q) (more ms q.state) = sym h ∙ ap (λ n. walk M width n start) e ∙ k in
          cc

  -- the one with fewer typed lines is given the rest
  reached_with : (start : State C) (p : Course C) (ls ts : List Line) → Kept M width start p → p.typed ++ ls ≡ ts → walk M width p.taken (more ts start) ≡ goes (deeds_of M width p) (more ls p.state)
  reached_with start p ls ts k e = ap (λ ws. walk M width p.taken (more ws start)) (sym e) ∙ given_more M width start p ls k

  alike : (start : State C) (p q : Course C) → Kept M width start p → Kept M width start q → Begins p.typed q.typed ⊎ Begins q.typed p.typed → Alike p q
  alike start p q h k (inl x) =
      both (more q.typed start) p q x.0 [] (reached_with start p x.0 q.typed h x.1) (reached_with start q [] q.typed k (append-nil q.typed))
  alike start p q h k (inr x) =
      both (more p.typed start) p q [] x.0 (reached_with start p [] p.typed h (append-nil p.typed)) (reached_with start q x.0 p.typed k x.1)

  even : (start : State C) (p : Course C) → Kept M width start p → Balanced start p
  even start p k =
      let w = walk_balance M width p.taken (more p.typed start) (deeds_of M width p) p.state k.reached in
      omega (arith, length-append start.waiting p.typed)

  pub compared : Compares M width
  compared =
      record {
        alike = λ s t ks ls e x.
            alike t (course M width ks (begun s)) (course M width ls (begun t))
            (subst (λ u. Kept M width u (course M width ks (begun s))) e (kept M width s ks)) (kept M width t ls) x;
        balanced = λ s ks. even s (course M width ks (begun s)) (kept M width s ks);
        counted = λ s ks. (kept M width s ks).counted;
      }
