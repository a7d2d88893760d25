-- Document 01, "Lists of messages": the words that demand 3 is said in, of states and items: where cells lie, the window, items by kind, what a screen keeps over a stretch.
use Rattle.std.specs.Prelude.{◌≡◌, ℕ, ◌+◌, ◌≤◌, ◌<◌, Bool, true, false, ◌||◌, [], length, get_or, eqb}
use Rattle.model.specs.declared.Settings.{Settings}
use Rattle.model.specs.declared.Sequence.TheVariants.{Display}
use Rattle.model.specs.declared.Item.{Item}
use Rattle.model.specs.declared.Item.TheVariants.{Printed, Control, Sequence, Refused}
use Rattle.model.specs.State.{State}
use Rattle.model.specs.Screens.{lines_of, columns_of, place_of, screens, height, base, size, cell_at, here}
use Rattle.model.specs.Marks.{mark_of}
use Rattle.model.specs.Sound.{Sound, Inside}
use Rattle.model.specs.Sequences.{code_of}
use Rattle.model.specs.Items.{Event, item_read, line_left, key_set}

-- a line and a column of screen k (0 or 1)
pub record On (s : Settings) (k l c : ℕ) : Type 0 where
  pub screen : k < 2
  pub line_low : 1 ≤ l
  pub line_high : l ≤ lines_of s k
  pub column_low : 1 ≤ c
  pub column_high : c ≤ columns_of s k

-- "Screen 1 is the first cells, its lines × columns; screen 2 is the next, its own lines × columns; all lie among the 3,840"
pub record Apart (s : Settings) : Type 0 where
  pub first : base s 0 ≡ 0
  pub next : base s 1 ≡ size s 0
  pub within : base s 1 + size s 1 ≤ 3840
  -- the same place by place: each is among the 3,840, and no two lines and columns, of one screen or of both, are one cell
  pub among : (k l c : ℕ) → On s k l c → cell_at s k l c < 3840
  pub one_place : (k l c l' c' : ℕ) → On s k l c → On s k l' c' → cell_at s k l c ≡ cell_at s k l' c' → (l ≡ l') × (c ≡ c')
  pub none_shared : (l c l' c' : ℕ) → On s 0 l c → On s 1 l' c' → cell_at s 0 l c ≡ cell_at s 1 l' c' → ⊥

-- what every state of a list is: sound settings, each cursor and window inside its screen (P11: in mode 3 "screen 1's cursor and window alone", else both
-- screens'), the screens' cells apart, stores of their sizes
pub record Standing (st : State) : Type 0 where
  pub sound : Sound st.settings
  pub inside : (k : ℕ) → k < screens st.settings → Inside st.settings k
  pub apart : Apart st.settings
  pub cells_are : length st.cells ≡ 3840
  pub layer_is : length st.layer ≡ 1280
  pub dots_are : length st.dots ≡ 3840

-- "the window is lines top to top+H−1": the cursor's line lies in it, "on the selected screen"
pub record InWindow (st : State) : Type 0 where
  pub from_top : (here st).top ≤ (here st).line
  pub to_bottom : (here st).line < (here st).top + height st.settings

-- "a mode setting is an accepted 208"
abbrev pub is_mode : Item → Bool
is_mode (Printed c) = false
is_mode (Control c) = false
is_mode (Sequence q) = eqb (code_of q) 208
is_mode (Refused n p) = false

-- "A printed character is a printed byte or an accepted 37; a line step is code 10, and codes 8 and 13 are counted with it; a cursor placing is 61"
abbrev pub follows : Item → Bool
follows (Printed c) = true
follows (Control c) = eqb c 8 || eqb c 10 || eqb c 13
follows (Sequence q) = eqb (code_of q) 37 || eqb (code_of q) 61
follows (Refused n p) = false

-- a refusal
abbrev pub is_refusal : Item → Bool
is_refusal (Printed c) = false
is_refusal (Control c) = false
is_refusal (Sequence q) = false
is_refusal (Refused n p) = true

-- the same of an event; what moves a stream's line or sets a key's text is none of these
abbrev pub sets_mode : Event → Bool
sets_mode (item_read r) = is_mode r.item
sets_mode (line_left w n) = false
sets_mode (key_set k x) = false

abbrev pub refused_event : Event → Bool
refused_event (item_read r) = is_refusal r.item
refused_event (line_left w n) = false
refused_event (key_set k x) = false

abbrev pub must_follow : Event → Bool
must_follow (item_read r) = follows r.item
must_follow (line_left w n) = false
must_follow (key_set k x) = false

-- each cell, the cursor, whether it is late (P9) and each mark (P5) of screen k are in b as in a
pub record Unchanged (k : ℕ) (a b : State) : Type 0 where
  pub lines : lines_of b.settings k ≡ lines_of a.settings k
  pub columns : columns_of b.settings k ≡ columns_of a.settings k
  pub cells : (l c : ℕ) → On a.settings k l c → get_or b.cells (cell_at b.settings k l c) 0 ≡ get_or a.cells (cell_at a.settings k l c) 0
  pub cursor_line : (place_of b.settings k).line ≡ (place_of a.settings k).line
  pub cursor_column : (place_of b.settings k).column ≡ (place_of a.settings k).column
  pub late : (place_of b.settings k).late ≡ (place_of a.settings k).late
  pub marks : (l : ℕ) → 1 ≤ l → l ≤ 48 → mark_of b.settings k l ≡ mark_of a.settings k l

-- and the window: the lines top to top+H−1
pub record SameWindow (k : ℕ) (a b : State) : Type 0 where
  pub top : (place_of b.settings k).top ≡ (place_of a.settings k).top
  pub tall : height b.settings ≡ height a.settings

-- P2, "211 joins 208 as what may move the other window", and of 211 "A changed 211": an item that may not is no mode setting, and no 211 with another value than
-- the one that stands (P11: in mode 3 any 211 does nothing)
abbrev pub StillItem : Item → State → Type 0
StillItem i st = (is_mode i ≡ false) × ((n : ℕ) → i ≡ Sequence (Display n) → (st.settings.mode ≡ 3 → ⊥) → n ≡ st.settings.display)

-- the same of an event; what moves a stream's line or sets a key's text moves no window
abbrev pub StillEvent : Event → State → Type 0
StillEvent (item_read r) st = StillItem r.item st
StillEvent (line_left w n) st = Unit {0}
StillEvent (key_set k x) st = Unit {0}

-- read past the end of a list of events; no claim reaches it
abbrev pub no_event : Event
no_event = item_read (record { at = 0; item = Refused 0 0; bytes = []; prints = 0 })
