-- After every list of orders no piece stands twice, no square holds two, and all stand within the board.
use Rattle.std.proofs.Common.{◌≡◌, ℕ, suc, ◌+◌, ◌<◌, ◌≤◌, Bool, true, false, ◌&&◌, eqb, leb, List, [], ◌∷◌, ◌++◌, length, get_or, set, ℤ, pos, negsuc, nat_abs, Some, None, Decides, Option, sym, refl, ap, ◌∙◌, inl, inr, arith}
use Rattle.std.specs.List.{remove, AllByRecursion as All}
use Rattle.std.proofs.lemmas.List.Edits.{length-remove, get_or-remove_below, get_or-remove_above}
use Rattle.std.proofs.ByRecursion.{All-get_or}
use Rattle.std.proofs.lemmas.Slice.Eq.{bytes_eq-Decides}
use Rattle.std.proofs.lemmas.List.{length_push, get_or_push, get_or_append_left, length-set, get_or-set_same, get_or-set_other}
use Rattle.std.proofs.lemmas.Bool.{and_parts, eqb-true, leb-true, leb-false, cases_Bool, cases_eq, cases_lt, cond_both}
use Rattle.std.proofs.lemmas.Bool.Decides.{nat_tests}
use Rattle.text.specs.Search.{first_from}
use Rattle.text.specs.Words.{words_of}
use Rattle.host.specs.Books.{Pair}
use Rattle.map.specs.Boards.{Stand, stand, Board, is_piece, is_on, place_of, holder_of, on_board, Outcome, if_on, place_at, move_at, take_at, obeyed, board_after}
use Rattle.map.specs.Laws.{Orderly, StaysOrderly}
use Rattle.map.specs.Orders.{Order, order_of}
use Rattle.map.specs.Orders.Order.{place, move, take}

-- what a search tells: where it finds none, none passes; else the one at the place found does
none_passes : {R : Type 0} (p : R → Bool) (a : ℕ) (xs : List R) → first_from p a xs ≡ None → All (λ x. p x ≡ false) xs
none_passes p a [] h = tt
none_passes p a (x ∷ xs) h = let f = none_passes p (a + 1) xs in let b = cases_Bool (p x) in grind arith

found_passes : {R : Type 0} (p : R → Bool) (a : ℕ) (xs : List R) (i : ℕ) → first_from p a xs ≡ Some i →
    (k : ℕ) × (i ≡ a + k) × (k < length xs) × ((d : R) → p (get_or xs k d) ≡ true)
found_passes p a [] i h = absurd (let z : ◌≡◌ {A = ℕ} 0 1 = cc in omega arith)
found_passes p a (x ∷ xs) i h =
    elim (cases_Bool (p x)) [
      | inl e ↦ let z : Some a ≡ Some i = sym (rw e) ∙ h in let w : a ≡ i = cc in (0, omega arith, omega arith, λ d. e)
      | inr e ↦ let f = found_passes p (a + 1) xs i (sym (rw e) ∙ h) in (suc f.0, omega arith, omega arith, f.3)
    ]

-- the keys of a piece are its name and its square
abbrev called : Stand → List ℕ
called s = s.name

abbrev square : Stand → ℕ × ℕ
square s = (s.row, s.column)

-- each key of a board is at one place only
abbrev Unique : {K : Type 0} → (Stand → K) → Board → Type 0
Unique key board =
    (i j : ℕ) (d : Stand) → i < length board → j < length board → key (get_or board i d) ≡ key (get_or board j d) → i ≡ j

squares : {side number : ℕ} {board : Board} → Orderly side number board → Unique square board
squares orderly i j d l m e = orderly.alone i j d l m (ap (λ (q : ℕ × ℕ). q.0) e) (ap (λ (q : ℕ × ℕ). q.1) e)

-- a key is at no other place than this; and what a search for a key tells
abbrev Only : {K : Type 0} → (Stand → K) → Board → K → ℕ → Type 0
Only key board v at = (k : ℕ) (d : Stand) → k < length board → key (get_or board k d) ≡ v → k ≡ at

abbrev Told : {K : Type 0} → (Stand → K) → Board → K → Option ℕ → Type 0
Told key board v None = (at : ℕ) → Only key board v at
Told key board v (Some i) = (i < length board) × Only key board v i

told : {K : Type 0} (key : Stand → K) (test : Stand → Bool) (v : K) → ((s : Stand) → Decides (test s) (key s ≡ v)) →
    (board : Board) → Unique key board → (o : Option ℕ) → first_from test 0 board ≡ o → Told key board v o
told key test v means board unique None h =
    λ at k d l e. grind (arith, All-get_or (λ s. test s ≡ false) board k d l (none_passes test 0 board h), means (get_or board k d))
told key test v means board unique (Some i) h =
    let f = found_passes test 0 board i h in
    let same : i ≡ f.0 = omega arith in
    (omega arith, λ k d m e. unique k i d m (omega arith) (grind (arith, f.3 d, means (get_or board i d))))

-- the tests of squares
is_on_lem : (r c : ℕ) (s : Stand) → Decides (is_on r c s) (square s ≡ (r, c))
is_on_lem r c s = (λ e. grind (arith, nat_tests), λ e. grind (arith, nat_tests))

on_board_lem : (side : ℕ) (z : ℤ) → on_board side z ≡ true → (1 ≤ nat_abs z) × (nat_abs z ≤ side)
on_board_lem side (pos n) h = let q = and_parts _ _ h in (leb-true _ _ q.0, leb-true _ _ q.1)
on_board_lem side (negsuc n) h = absurd (let z : ◌≡◌ {A = ℕ} 0 1 = cc in omega arith)

-- a board with a piece put at one place, and every other place as it was
record Puts (before after : Board) (at : ℕ) (x : Stand) : Type 0 where
  new : (d : Stand) → get_or after at d ≡ x
  old : (k : ℕ) (d : Stand) → k < length after → (k ≡ at → ⊥) → (k < length before) × (get_or after k d ≡ get_or before k d)

pushed : (board : Board) (x : Stand) → Puts board (board ++ x ∷ []) (length board) x
pushed board x =
    let size = length_push board x in
    record {
      new = λ d. get_or_push board x d _ refl;
      old = λ k d l n. (omega arith, get_or_append_left board (x ∷ []) d k (omega arith));
    }

replaced : (board : Board) (i : ℕ) (x : Stand) → i < length board → Puts board (set board i x) i x
replaced board i x h =
    let size = length-set board i x in
    record {
      new = λ d. get_or-set_same board i x d h;
      old = λ k d l n. (omega arith, get_or-set_other board i k x d n);
    }

-- keys stay at one place only
unique_put : {K : Type 0} (key : Stand → K) (before after : Board) (at : ℕ) (x : Stand) → Puts before after at x →
    Only key before (key x) at → Unique key before → Unique key after
unique_put key before after at x puts only unique i j d l m e =
    grind (arith, cases_eq i at, cases_eq j at, puts.old i d l, puts.old j d m, puts.new d)

unique_removed : {K : Type 0} (key : Stand → K) (board : Board) (at : ℕ) → at < length board →
    Unique key board → Unique key (remove board at)
unique_removed key board at h unique i j d l m e =
    let size = length-remove board at h in
    let below = get_or-remove_below board at d in
    let above = get_or-remove_above board at d in
    grind (arith, cases_lt i at, cases_lt j at, below i, below j, above i, above j)

-- an order leaves the board orderly
module _ (side number : ℕ) (board : Board) (orderly : Orderly side number board) where
  abbrev Kept : Outcome → Type 0
  Kept o = Orderly side number o.board

  named : (p : List ℕ) → Told called board p (place_of p board)
  named p = told called (is_piece p) p (λ s. bytes_eq-Decides s.name p) board orderly.once _ refl

  held : (r c : ℤ) → Told square board (nat_abs r, nat_abs c) (holder_of r c board)
  held r c = told square (is_on (nat_abs r) (nat_abs c)) _ (is_on_lem (nat_abs r) (nat_abs c)) board (squares orderly) _ refl

  taken : (p : List ℕ) (o : Option ℕ) → Told called board p o → Kept (take_at board o)
  taken p None name = orderly
  taken p (Some i) (h, name) =
      let size = length-remove board i h in
      record {
        once = unique_removed called board i h orderly.once;
        alone = λ j k d l m e f. unique_removed square board i h (squares orderly) j k d l m (cc);
        inside = λ k d l.
            let below = get_or-remove_below board i d k in
            let above = get_or-remove_above board i d k in
            grind (arith, cases_lt k i, below, above, orderly.inside k d, orderly.inside (k + 1) d);
        few = omega (arith, orderly.few);
      }

  module _ (p : List ℕ) (r c : ℤ) (on : (on_board side r && on_board side c) ≡ true) where
    put : (at : ℕ) (after : Board) → Puts board after at (stand p r c) → Only called board p at →
        Only square board (nat_abs r, nat_abs c) at → length after ≤ number → Orderly side number after
    put at after puts name free few =
        let q = and_parts _ _ on in
        let a = on_board_lem side r q.0 in
        let b = on_board_lem side c q.1 in
        record {
          once = unique_put called board after at (stand p r c) puts name orderly.once;
          alone = λ j k d l m e f. unique_put square board after at (stand p r c) puts free (squares orderly) j k d l m (cc);
          inside = λ k d l. grind (arith, cases_eq k at, puts.old k d l, puts.new d, orderly.inside k d);
          few = few;
        }

    placed : (o h : Option ℕ) → Told called board p o → Told square board (nat_abs r, nat_abs c) h →
        Kept (place_at number board p r c o h)
    placed (Some i) h name free = orderly
    placed None (Some j) name free = orderly
    placed None None name free =
        cond_both (leb number (length board)) _ _ Kept (λ g. orderly)
        (λ g. put _ _ (pushed board (stand p r c)) (name _) (free _)
        (omega (arith, length_push board (stand p r c), leb-false number (length board) g)))

    shifted : (i : ℕ) → Told called board p (Some i) → Only square board (nat_abs r, nat_abs c) i →
        Orderly side number (set board i (stand p r c))
    shifted i (h, name) free =
        put i _ (replaced board i (stand p r c) h) name free (omega (arith, length-set board i (stand p r c), orderly.few))

    moved : (o h : Option ℕ) → Told called board p o → Told square board (nat_abs r, nat_abs c) h →
        Kept (move_at board p r c o h)
    moved None h name free = orderly
    moved (Some i) None name free = shifted i name (free i)
    moved (Some i) (Some j) name free =
        cond_both (eqb i j) _ _ Kept
        (λ g. shifted i name (λ k d l e. free.1 k d l e ∙ sym (eqb-true i j g))) (λ g. orderly)

  if_on_lem : (r c : ℤ) (o : Outcome) → ((on_board side r && on_board side c) ≡ true → Kept o) →
      Kept (if_on side board r c o)
  if_on_lem r c o h = cond_both (on_board side r && on_board side c) _ _ Kept h (λ e. orderly)

  ordered : (o : Option Order) → Kept (obeyed side number board o)
  ordered None = orderly
  ordered (Some (place p r c)) = if_on_lem r c _ (λ on. placed p r c on _ _ (named p) (held r c))
  ordered (Some (move p r c)) = if_on_lem r c _ (λ on. moved p r c on _ _ (named p) (held r c))
  ordered (Some (take p)) = taken p _ (named p)

-- and so does a list of them, from a board with no piece
orders_keep : (side number : ℕ) (orders : List Pair) (board : Board) → Orderly side number board →
    Orderly side number (board_after side number board orders)
orders_keep side number [] board orderly = orderly
orders_keep side number (o ∷ os) board orderly =
    orders_keep side number os _ (ordered side number board orderly (order_of (words_of o.command)))

pub stays_orderly : StaysOrderly
stays_orderly side number orders =
    orders_keep side number orders []
    (record { once = λ i j d l. omega arith; alone = λ i j d l. omega arith; inside = λ i d l. absurd (omega arith); few = omega arith })
