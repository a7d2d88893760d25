-- The picture without secret and layer, by panes: one view for each of the modes, and what its rows show. Rows and
-- columns are counted from 0 here, as the code counts them; a place is a byte of the shown screen.
use Rattle.std.specs.Prelude.{◌≡◌, ℕ, ◌+◌, ◌-◌, ◌*◌, ◌/◌, ◌%◌, ◌≤◌, ◌<◌, cond, List, get_or, ltb}
use Rattle.model.specs.declared.Settings.{Settings}
use Rattle.model.specs.State.{state}
use Rattle.model.specs.Screens.{place_of, columns_of, line_at, text_rows, height}
use Rattle.model.specs.Picture.{under}
use Rattle.views.specs.declared.Pane.{Pane}
use Rattle.views.specs.declared.View.{View}

-- the cell of a pane at a row and a column
abbrev pub cell_in : Pane → ℕ → ℕ → ℕ
cell_in pane row column = pane.at + row * pane.width + column

-- what a row shows at a column: the left pane, the gap, the right pane
unfoldable pub across : View → List ℕ → ℕ → ℕ → ℕ
across v cells row column =
    cond (ltb column v.left.width) (get_or cells (cell_in v.left row column) 0)
    (cond (ltb column (v.left.width + v.gap)) v.code (get_or cells (cell_in v.right row (column - (v.left.width + v.gap))) 0))

-- the same by place
unfoldable pub seen : View → List ℕ → ℕ → ℕ
seen v cells p = across v cells (p / 80) (p % 80)

-- a row is 80 wide, the rows are no more than those of the shown screen, and all rows of each pane lie among the cells; beside a pane that is
-- not 80 wide there is a gap of 1, or the panes are mode 1's halves
pub record Framed (v : View) : Type 0 where
  pub whole : v.left.width + v.gap + v.right.width ≡ 80
  pub rows_high : v.rows ≤ 8
  pub left_inside : v.left.at + v.rows * v.left.width ≤ 3840
  pub right_inside : v.right.at + v.rows * v.right.width ≤ 3840
  pub halves : v.gap ≡ 2 → (v.left.width ≡ 39) × (v.right.width ≡ 39)
  pub single : (v.left.width ≡ 80 → ⊥) → (v.gap ≡ 2 → ⊥) → v.gap ≡ 1

-- row `row` of a pane: its first cell, and all of it lies among the cells
pub record Line (pane : Pane) (row r : ℕ) : Type 0 where
  pub starts : r ≡ pane.at + row * pane.width
  pub inside : r + pane.width ≤ 3840

-- a pane is the window of screen k
pub record Window (s : Settings) (k : ℕ) (pane : Pane) : Type 0 where
  pub starts : pane.at ≡ line_at s k (place_of s k).top
  pub wide : pane.width ≡ columns_of s k
  pub inside : pane.at + height s * pane.width ≤ 3840

-- a view shows "the picture without secret and layer" in the rows that show text
pub record ViewOf (s : Settings) (v : View) : Type 0 where
  pub framed : Framed v
  pub rows_are : v.rows ≡ text_rows s
  pub same : (cells layer dots : List ℕ) (row column : ℕ) → row < v.rows → column < 80 → across v cells row column ≡ under (state s cells layer dots) (row + 1) (column + 1)
