-- The first piece found on a square is the piece that is told.
use Rattle.std.proofs.Common.{◌≡◌, ℕ, suc, ◌+◌, ◌-◌, ◌<◌, ◌≤◌, true, false, ◌&&◌, List, [], ◌∷◌, length, get_or, ℤ, pos, nat_abs, Some, None, Option, sym, refl, ap, ◌∙◌, subst, ⊎_elim, arith}
use Rattle.std.proofs.lemmas.List.{get_or-map, length-map}
use Rattle.std.proofs.lemmas.Bool.{cases_Bool, cond-true}
use Rattle.text.specs.Tables.{held}
use Rattle.text.specs.Search.{first_from}
use Rattle.map.specs.Boards.{Stand, Board, is_on, on_board, piece_on, piece_at}
use Rattle.map.specs.Pieces.{stand_of, board_of}
use Rattle.map.specs.declared.piece.Piece.{Piece}

module _ (r c : ℕ) (d : Stand) where
  named_from : (board : Board) (k i : ℕ) → Some i ≡ first_from (is_on r c) k board → (k ≤ i) × (Some (get_or board (i - k) d).name ≡ piece_on r c board)
  named_from [] k i e = absurd (let z : ◌≡◌ {A = ℕ} 0 1 = cc in omega arith)
  named_from (s ∷ ss) k i e =
      ⊎_elim
      (λ (h : is_on r c s ≡ true).
      let f : Some i ≡ Some k = rw h at e in
      let j : i ≡ k = cc in
      let z : i - k ≡ 0 = omega arith in
      (omega arith, rw (h, z)))
      (λ (h : is_on r c s ≡ false).
      let g = named_from ss (k + 1) i (rw h at e) in
      let low : k + 1 ≤ i = g.0 in
      let z : i - k ≡ suc (i - (k + 1)) = omega arith in
      (omega arith, rw (h, z) g.1))
      (cases_Bool (is_on r c s))

  pub named_here : (board : Board) (i : ℕ) → Some i ≡ first_from (is_on r c) 0 board → Some (get_or board i d).name ≡ piece_on r c board
  named_here board i e = let z : i - 0 ≡ i = omega arith in ap (λ (m : ℕ). Some (get_or board m d).name) (sym z) ∙ (named_from board 0 i e).1

pub unnamed : (r c k : ℕ) (board : Board) → None ≡ first_from (is_on r c) k board → None ≡ piece_on r c board
unnamed r c k [] e = refl
unnamed r c k (s ∷ ss) e =
    ⊎_elim
    (λ (h : is_on r c s ≡ true). absurd (let f : None ≡ Some k = rw h at e in let z : ◌≡◌ {A = ℕ} 0 1 = cc in omega arith))
    (λ (h : is_on r c s ≡ false). rw h (unnamed r c (k + 1) ss (rw h at e)))
    (cases_Bool (is_on r c s))

-- a square that is on the board
pub told_at : (side : ℕ) (row column : ℤ) (r c : ℕ) (board : Board) (o : Option (List ℕ)) → (on_board side row && on_board side column) ≡ true → row ≡ pos r → column ≡ pos c → o ≡ piece_on r c board → o ≡ piece_at side row column board
told_at side row column r c board o h p q e =
    e
    ∙ ap (λ (z : ℤ). piece_on (nat_abs z) c board) (sym p)
    ∙ ap (λ (z : ℤ). piece_on (nat_abs row) (nat_abs z) board) (sym q)
    ∙ sym (cond-true _ _ _ h)

-- a piece at a place of the table is the one at that place of the board
pub placed_name : (pieces : List Piece) (board : Board) (i : ℕ) (x : Piece) (name : List ℕ) → board_of pieces ≡ board → name ≡ held (get_or pieces i x).name → i < length board → name ≡ (get_or board i (stand_of x)).name
placed_name pieces board i x name e n h =
    let l : i < length (board_of pieces) = subst (λ (b : Board). i < length b) (sym e) h in
    let k : i < length pieces = simp length-map at l in
    n
    ∙ sym (ap (λ (s : Stand). s.name) (get_or-map stand_of pieces i x (stand_of x) k))
    ∙ ap (λ (b : Board). (get_or b i (stand_of x)).name) e
