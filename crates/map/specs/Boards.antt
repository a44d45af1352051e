-- A board: which piece stands where. Orders are carried out on a board of any side and number of pieces.
use Rattle.std.specs.Prelude.{ℕ, Bool, false, cond, not, ◌&&◌, List, [], ◌∷◌, ◌++◌, length, ℤ, pos, Some, None, Option, ◌==◌, int_le, nat_le, slice_set, unsigned_abs}
use Rattle.std.specs.List.{remove}
use Rattle.std.specs.Str.{bytes_eq}
use Rattle.text.specs.Search.{first_from}
use Rattle.text.specs.Words.{words_of}
use Rattle.host.specs.Books.{Pair, Book}
use Rattle.map.specs.Codes.{code_number}
use Rattle.map.specs.Orders.{Order, order_of}
use Rattle.map.specs.Orders.Order.{place, move, take}
use Rattle.map.specs.declared.code.Code.{Code}
use Rattle.map.specs.declared.code.Code.TheVariants.{Done, SquareHeld, WrongPiece, OffTheMap, TooManyPieces, Malformed}

-- a piece and its square
pub record Stand : Type 0 where
  pub name : List ℕ
  pub row : ℕ
  pub column : ℕ

abbrev pub stand : List ℕ → ℤ → ℤ → Stand
stand p r c = record { name = p; row = unsigned_abs r; column = unsigned_abs c }

-- the pieces that stand, in the order in which they were placed
abbrev pub Board : Type 0
Board = List Stand

abbrev pub is_piece : List ℕ → Stand → Bool
is_piece p s = bytes_eq s.name p

abbrev pub is_on : ℕ → ℕ → Stand → Bool
is_on r c s = s.row == r && s.column == c

-- where a piece stands among the pieces, and which piece is on a square
abbrev pub place_of : List ℕ → Board → Option ℕ
place_of p = first_from (is_piece p) 0

abbrev pub holder_of : ℤ → ℤ → Board → Option ℕ
holder_of r c = first_from (is_on (unsigned_abs r) (unsigned_abs c)) 0

-- rows and columns are from 1 to the side
abbrev pub on_board : ℕ → ℤ → Bool
on_board side z = int_le (pos 1) z && int_le z (pos side)

-- what an order comes to: its code, and the board then
pub record Outcome : Type 0 where
  pub code : Code
  pub board : Board

abbrev pub outcome : Code → Board → Outcome
outcome k b = record { code = k; board = b }

-- a square off the board comes first
abbrev pub if_on : ℕ → Board → ℤ → ℤ → Outcome → Outcome
if_on side board r c o = cond (on_board side r && on_board side c) o (outcome OffTheMap board)

abbrev pub place_at : ℕ → Board → List ℕ → ℤ → ℤ → Option ℕ → Option ℕ → Outcome
place_at number board p r c (Some i) held = outcome WrongPiece board
place_at number board p r c None (Some j) = outcome SquareHeld board
place_at number board p r c None None =
    cond (nat_le number (length board)) (outcome TooManyPieces board) (outcome Done (board ++ stand p r c ∷ []))

abbrev pub move_at : Board → List ℕ → ℤ → ℤ → Option ℕ → Option ℕ → Outcome
move_at board p r c None held = outcome WrongPiece board
move_at board p r c (Some i) None = outcome Done (slice_set board i (stand p r c))
move_at board p r c (Some i) (Some j) =
    cond (i == j) (outcome Done (slice_set board i (stand p r c))) (outcome SquareHeld board)

-- whether a square is held by another than the piece at a place
abbrev pub other_than : ℕ → Option ℕ → Bool
other_than i None = false
other_than i (Some j) = not (i == j)

abbrev pub take_at : Board → Option ℕ → Outcome
take_at board None = outcome WrongPiece board
take_at board (Some i) = outcome Done (remove board i)

-- the codes, the first that applies
abbrev pub obeyed : ℕ → ℕ → Board → Option Order → Outcome
obeyed side number board None = outcome Malformed board
obeyed side number board (Some (place p r c)) =
    if_on side board r c (place_at number board p r c (place_of p board) (holder_of r c board))
obeyed side number board (Some (move p r c)) =
    if_on side board r c (move_at board p r c (place_of p board) (holder_of r c board))
obeyed side number board (Some (take p)) = take_at board (place_of p board)

-- a command as it is sent
abbrev pub commanded : ℕ → ℕ → Board → List ℕ → Outcome
commanded side number board command = obeyed side number board (order_of (words_of command))

-- the board after a list of commands; the environment is not looked at
abbrev pub board_after : ℕ → ℕ → Board → List Pair → Board
board_after side number board [] = board
board_after side number board (p ∷ ps) = board_after side number (commanded side number board p.command).board ps

-- the code of the last command, on the board that the others leave
abbrev pub board_book : ℕ → ℕ → Board → Book
board_book side number board before last = code_number (commanded side number (board_after side number board before) last.command).code

-- the name of the piece on a square of the board
abbrev pub piece_on : ℕ → ℕ → Board → Option (List ℕ)
piece_on r c [] = None
piece_on r c (s ∷ ss) = cond (is_on r c s) (Some s.name) (piece_on r c ss)

-- the piece on a square, or none; a square off the board has none
abbrev pub piece_at : ℕ → ℤ → ℤ → Board → Option (List ℕ)
piece_at side r c board = cond (on_board side r && on_board side c) (piece_on (unsigned_abs r) (unsigned_abs c) board) None
