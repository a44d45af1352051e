-- The map, seen as a board.
use Rattle.std.specs.Prelude.{◌≡◌, ℕ}
use Rattle.text.specs.Tables.{held}
use Rattle.host.specs.Books.{Book}
use Rattle.map.specs.Boards.{Board, Outcome, board_book}
use Rattle.map.specs.Pieces.{board_of}
use Rattle.map.specs.declared.code.Code.{Code}
use Rattle.map.specs.declared.map.Grid.{Grid}

abbrev pub map_board : {SIDE ROOM : ℕ} → Grid SIDE ROOM → Board
map_board m = board_of (held m.pieces)

abbrev pub map_book : {SIDE ROOM : ℕ} → Grid SIDE ROOM → Book
map_book {SIDE} {ROOM} m = board_book SIDE ROOM (map_board m)

-- the code that an order answers, and the map then, are the outcome's
pub record Leaves {SIDE ROOM : ℕ} (o : Outcome) (after : Grid SIDE ROOM) (r : Code) : Type 0 where
  pub code : r ≡ o.code
  pub board : map_board after ≡ o.board
