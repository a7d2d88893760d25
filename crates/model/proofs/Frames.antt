-- What the proofs of demand 3 carry from item to item: one screen the same in two states, legal items.
use mathlib.Core.Path.{◌≡◌}
use Prim.Native.Nat.{ℕ}
use mathlib.Core.Bool.{Bool}
use mathlib.Core.List.{List}
use lib.ListN.{length, take, drop}
use Rattle.model.specs.declared.Limits.{Limits}
use Rattle.model.specs.State.{State}
use Rattle.model.specs.Screens.{lines_of, columns_of, place_of, height, base, size}
use Rattle.model.specs.Marks.{marks_of}
use Rattle.model.specs.Line.{line?, padded}
use Rattle.model.specs.Judging.{legal_item?}
use Rattle.model.specs.Items.{Event, item_read, line_left, key_set}
use Rattle.model.specs.Keyable.{keyable}

-- the cells of screen k
abbrev pub cells_of : State → ℕ → List ℕ
cells_of st k = take (size st.settings k) (drop (base st.settings k) st.cells)

-- screen k is the same in both: where it lies, its cursor and window, its cells and marks
pub record SameScreen (k : ℕ) (a b : State) : Type 0 where
  pub same_base : base b.settings k ≡ base a.settings k
  pub same_lines : lines_of b.settings k ≡ lines_of a.settings k
  pub same_columns : columns_of b.settings k ≡ columns_of a.settings k
  pub same_height : height b.settings ≡ height a.settings
  pub same_place : place_of b.settings k ≡ place_of a.settings k
  pub same_cells : cells_of b k ≡ cells_of a k
  pub same_marks : marks_of b.settings k ≡ marks_of a.settings k

-- the same but for its window: where it lies, its cursor and whether it is late, its cells and marks
pub record Spared (k : ℕ) (a b : State) : Type 0 where
  pub same_base : base b.settings k ≡ base a.settings k
  pub same_lines : lines_of b.settings k ≡ lines_of a.settings k
  pub same_columns : columns_of b.settings k ≡ columns_of a.settings k
  pub same_line : (place_of b.settings k).line ≡ (place_of a.settings k).line
  pub same_column : (place_of b.settings k).column ≡ (place_of a.settings k).column
  pub same_late : (place_of b.settings k).late ≡ (place_of a.settings k).late
  pub same_cells : cells_of b k ≡ cells_of a k
  pub same_marks : marks_of b.settings k ≡ marks_of a.settings k

-- the parameters of an event are in their ranges, a line that is left is sound, a key and its text are not 17
abbrev pub legal_event? : Event → Limits → Bool
legal_event? (item_read r) s = legal_item? r.item s
legal_event? (line_left w n) s = line? (padded w) (length w) n
legal_event? (key_set k x) s = keyable k x
