-- The law of boards: no piece stands twice and no square holds two.
use Rattle.std.specs.Prelude.{◌≡◌, ℕ, ◌<◌, ◌≤◌, List, [], length, slice_index_or}
use Rattle.host.specs.Books.{Pair}
use Rattle.map.specs.Boards.{Stand, Board, board_after}

pub record Orderly (side number : ℕ) (board : Board) : Type 0 where
  -- a name stands at one place only
  pub once : (i j : ℕ) (d : Stand) → i < length board → j < length board → (slice_index_or board i d).name ≡ (slice_index_or board j d).name → i ≡ j
  -- a square is held at one place only
  pub alone : (i j : ℕ) (d : Stand) → i < length board → j < length board → (slice_index_or board i d).row ≡ (slice_index_or board j d).row → (slice_index_or board i d).column ≡ (slice_index_or board j d).column → i ≡ j
  -- rows and columns are from 1 to the side
  pub inside : (i : ℕ) (d : Stand) → i < length board → (1 ≤ (slice_index_or board i d).row) × ((slice_index_or board i d).row ≤ side) × (1 ≤ (slice_index_or board i d).column) × ((slice_index_or board i d).column ≤ side)
  pub few : length board ≤ number

-- after every list of orders, on a board of any side and number of pieces that was empty at first
abbrev pub StaysOrderly : Type 0
StaysOrderly = (side number : ℕ) (orders : List Pair) → Orderly side number (board_after side number [] orders)
