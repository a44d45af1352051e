-- Text written part by part.
use Rattle.std.proofs.Common.{◌≡◌, ℕ, suc, ◌+◌, ◌-◌, ◌<◌, List, [], ◌∷◌, ◌++◌, pos, sym, ap, ◌∙◌, append_assoc, arith}
use Rattle.map.specs.Boards.{Board, holder_of}
use Rattle.console.specs.Boards.{answers_from, board_on, mark_of, cells_from, column_text, grid_from, board_text, orders_text}

-- what was to be written, less the part that is written now
pub part_more : (out after x rest whole goal : List ℕ) → after ≡ out ++ x → whole ≡ x ++ rest → out ++ whole ≡ goal → after ++ rest ≡ goal
part_more out after x rest whole goal e w inv =
    ap (λ (ys : List ℕ). ys ++ rest) e ∙ append_assoc out x rest ∙ ap (λ (ys : List ℕ). out ++ ys) (sym w) ∙ inv

-- answers and then the board, onto nothing
pub played : (out one two : List ℕ) (lines : List (List ℕ)) (first last : Board) → out ≡ [] → first ≡ [] → one ≡ out ++ answers_from first lines → last ≡ board_on first lines → two ≡ one ++ board_text last → two ≡ orders_text lines
played out one two lines first last o n e b f =
    f
    ∙ ap (λ (x : Board). one ++ board_text x) (b ∙ ap (λ (x : Board). board_on x lines) n)
    ∙ ap (λ (ys : List ℕ). ys ++ board_text (board_on [] lines)) (e ∙ ap (λ (ys : List ℕ). ys ++ answers_from first lines) o ∙ ap (λ (x : Board). answers_from x lines) n)

pub cell_more : (board : Board) (row column : ℕ) → column < 13 → cells_from board row column (13 - column) ≡ (32 ∷ 32 ∷ mark_of (holder_of (pos row) (pos column) board) ∷ []) ++ cells_from board row (column + 1) (13 - (column + 1))
cell_more board row column h =
    let z : 13 - column ≡ suc (13 - (column + 1)) = omega arith in
    ap (cells_from board row column) z

pub row_more : (board : Board) (row : ℕ) → row < 13 → grid_from board row (13 - row) ≡ (column_text row ++ cells_from board row 1 12 ++ 10 ∷ []) ++ grid_from board (row + 1) (13 - (row + 1))
row_more board row h =
    let z : 13 - row ≡ suc (13 - (row + 1)) = omega arith in
    ap (grid_from board row) z
