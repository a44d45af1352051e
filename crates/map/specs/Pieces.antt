-- The table of pieces, seen as a board.
use Rattle.std.specs.Prelude.{List, map}
use Rattle.text.specs.Tables.{held}
use Rattle.map.specs.Boards.{Stand, Board}
use Rattle.map.specs.declared.piece.Piece.{Piece}

abbrev pub stand_of : Piece → Stand
stand_of p = record { name = held p.name; row = p.square.row; column = p.square.column }

abbrev pub board_of : List Piece → Board
board_of ps = map stand_of ps
