-- Orders carried out on the table leave what they leave on the board.
use Rattle.std.proofs.Common.{◌≡◌, ℕ, false, eqb, map, set, pos, Some, None, Option, sym, refl, ap, ◌∙◌}
use Rattle.std.specs.List.{remove}
use Rattle.std.proofs.lemmas.List.{map-set}
use Rattle.std.proofs.lemmas.Bool.{not-false}
use Rattle.text.specs.Tables.{held}
use Rattle.text.proofs.Tables.{map-removed}
use Rattle.map.specs.Boards.{outcome, other_than, move_at}
use Rattle.map.specs.Maps.{map_board, Leaves}
use Rattle.map.specs.Pieces.{stand_of}
use Rattle.map.specs.declared.code.Code.TheVariants.{Done}
use Rattle.map.specs.declared.map.Grid.{Grid}
use Rattle.map.specs.declared.piece.Piece.{Piece}

module _ {SIDE ROOM : ℕ} (was is : Grid SIDE ROOM) where
  moved_to : (x : Piece) (i : ℕ) → held is.pieces ≡ set (held was.pieces) i x → Leaves (outcome Done (set (map_board was) i (stand_of x))) is Done
  moved_to x i e = record { code = refl; board = ap (map stand_of) e ∙ map-set stand_of (held was.pieces) i x }

  pub moved : (x : Piece) (i : ℕ) (h : Option ℕ) → held is.pieces ≡ set (held was.pieces) i x → false ≡ other_than i h → Leaves (move_at (map_board was) (held x.name) (pos x.square.row) (pos x.square.column) (Some i) h) is Done
  moved x i None e k = moved_to x i e
  moved x i (Some j) e k = rw (not-false (eqb i j) (sym k)) (moved_to x i e)

  pub taken : (i : ℕ) → held is.pieces ≡ remove (held was.pieces) i → Leaves (outcome Done (remove (map_board was) i)) is Done
  taken i e = record { code = refl; board = ap (map stand_of) e ∙ map-removed stand_of (held was.pieces) i }
