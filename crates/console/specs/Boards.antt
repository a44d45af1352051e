-- What the program writes for map orders: each order with its code, and the board as drawn.
use Rattle.std.specs.Prelude.{ℕ, zero, suc, ◌+◌, cond, List, [], ◌∷◌, ◌++◌, map, ℤ, pos, Some, None, codes, decimal, Option, nat_lt}
use Rattle.std.specs.Int.{is_in_range}
use Rattle.std.specs.Fmt.{signed_decimal}
use Rattle.map.specs.Boards.{Stand, Board, holder_of, commanded}
use Rattle.map.specs.Codes.{code_number}
use Rattle.console.specs.Texts.{field}

-- `PLACE A 1 2 = 0`
abbrev pub order_text : List ℕ → ℤ → List ℕ
order_text order code = order ++ codes " = " ++ signed_decimal code ++ 10 ∷ []

-- each order with the code that it gets, one after the other
abbrev pub answers_from : Board → List (List ℕ) → List ℕ
answers_from board [] = []
answers_from board (l ∷ ls) = order_text l (code_number (commanded 12 32 board l).code) ++ answers_from (commanded 12 32 board l).board ls

-- the board that orders leave
abbrev pub board_on : Board → List (List ℕ) → Board
board_on board [] = board
board_on board (l ∷ ls) = board_on (commanded 12 32 board l).board ls

-- the mark of the nth piece: A to Z, then a to f
abbrev pub mark : ℕ → ℕ
mark i = cond (nat_lt i 26) (65 + i) (71 + i)

-- a point where no piece stands
abbrev pub mark_of : Option ℕ → ℕ
mark_of None = 46
mark_of (Some i) = mark i

-- a number in a column of three
abbrev pub column_text : ℕ → List ℕ
column_text n = cond (nat_lt n 10) (32 ∷ 32 ∷ []) (32 ∷ []) ++ decimal n

-- so many cells of a row, from a column on
abbrev pub cells_from : Board → ℕ → ℕ → ℕ → List ℕ
cells_from board row column zero = []
cells_from board row column (suc n) = (32 ∷ 32 ∷ mark_of (holder_of (pos row) (pos column) board) ∷ []) ++ cells_from board row (column + 1) n

-- so many rows, from a row on
abbrev pub grid_from : Board → ℕ → ℕ → List ℕ
grid_from board row zero = []
grid_from board row (suc n) = (column_text row ++ cells_from board row 1 12 ++ 10 ∷ []) ++ grid_from board (row + 1) n

-- a byte that a screen can show
abbrev pub visible : ℕ → ℕ
visible b = cond (is_in_range 33 126 b) b 63

-- a piece with its mark and square: `A HAWK 1 4`
abbrev pub piece_text : ℕ → Stand → List ℕ
piece_text i s = (mark i ∷ 32 ∷ []) ++ map visible s.name ++ 32 ∷ [] ++ field s.row ++ decimal s.column ++ 10 ∷ []

-- the pieces that stand
abbrev pub legend_from : ℕ → Board → List ℕ
legend_from i [] = []
legend_from i (s ∷ ss) = piece_text i s ++ legend_from (i + 1) ss

abbrev pub heading : List ℕ
heading = codes "     1  2  3  4  5  6  7  8  9 10 11 12\n"

abbrev pub board_text : Board → List ℕ
board_text board = heading ++ grid_from board 1 12 ++ legend_from 0 board

abbrev pub orders_text : List (List ℕ) → List ℕ
orders_text orders = answers_from [] orders ++ board_text (board_on [] orders)
