-- Document 01, "Numbers returned", 3: "Settings are sound exactly when each lies in the range that the rules below give,
-- cursors and windows are inside their screens, and step is 1 to H." The stream's line (P1) is in Line, a screen's
-- marks (P5) in Marks. As a claim (Sound) and as a test (sound?).
use Rattle.std.specs.Prelude.{◌≡◌, ℕ, ◌+◌, ◌-◌, ◌≤◌, ◌<◌, Bool, ◌&&◌, cond, List, [], ◌∷◌, length, get_or, eqb}
use Rattle.model.specs.declared.Place.{Place}
use Rattle.model.specs.declared.Keys.{Keys}
use Rattle.model.specs.declared.Settings.{Settings}
use Rattle.model.specs.Checks.{Check, range, among, in_ranges?, InRanges}
use Rattle.model.specs.State.{State}
use Rattle.model.specs.Line.{LineSound, line?}
use Rattle.model.specs.Marks.{marks_of, Marked, marked?}
use Rattle.model.specs.Screens.{lines_of, columns_of, place_of, screens, height}

-- P9: "the flag is sound only in the last column under rule 2": its greatest value
abbrev pub most_late : ℕ → ℕ → ℕ → ℕ
most_late rule columns column = cond (eqb rule 2 && eqb column columns) 1 0

-- "cursor line 1 to lines, cursor column 1 to columns, top 1 to lines−H+1"; P9: the waiting flag
pub record Fits (rule lines columns height : ℕ) (p : Place) : Type 0 where
  pub line_low : 1 ≤ p.line
  pub line_high : p.line ≤ lines
  pub column_low : 1 ≤ p.column
  pub column_high : p.column ≤ columns
  pub top_low : 1 ≤ p.top
  pub top_high : p.top + height ≤ lines + 1
  pub waits : p.late ≤ most_late rule columns p.column

-- "each of its own screen"
abbrev pub Inside : Settings → ℕ → Type 0
Inside s k = Fits s.rule (lines_of s k) (columns_of s k) (height s) (place_of s k)

-- the table of modes: mode, lines of screens 1 and 2, columns of screens 1 and 2. Columns have one value in each mode
-- (mode 2: m and 79−m), so that two settings that mean the same are the same. P11, mode 3: "one text screen of 8 lines by 80"; "Screen 2 has no cells there":
-- no lines and no columns
pub data Shaped (m l1 l2 c1 c2 : ℕ) : Type 0 where
  mode0 : m ≡ 0 → c1 ≡ 80 → c2 ≡ 80 → 8 ≤ l1 → 8 ≤ l2 → l1 + l2 ≤ 48 → Shaped m l1 l2 c1 c2
  mode1 : m ≡ 1 → c1 ≡ 39 → c2 ≡ 39 → 16 ≤ l1 → l1 ≤ 48 → l2 ≡ l1 → Shaped m l1 l2 c1 c2
  mode2 : m ≡ 2 → 1 ≤ c1 → c1 ≤ 78 → c2 ≡ 79 - c1 → 8 ≤ l1 → l1 ≤ 48 → l2 ≡ l1 → Shaped m l1 l2 c1 c2
  mode3 : m ≡ 3 → c1 ≡ 80 → c2 ≡ 0 → l1 ≡ 8 → l2 ≡ 0 → Shaped m l1 l2 c1 c2

-- 67: "one of U F G E D W I S N"
abbrev pub charsets : List ℕ
charsets = 85 ∷ 70 ∷ 71 ∷ 69 ∷ 68 ∷ 87 ∷ 73 ∷ 83 ∷ 78 ∷ []

-- 247: "0, 2, 4, 6, 16, 18, 32, 34, 64, 66"
abbrev pub shifts : List ℕ
shifts = 0 ∷ 2 ∷ 4 ∷ 6 ∷ 16 ∷ 18 ∷ 32 ∷ 34 ∷ 64 ∷ 66 ∷ []

-- what is only stored: "Flags are 0 or 1; arrow codes, patterns and boundary are free"
unfoldable pub key_ranges : ℕ → Keys → List Check
key_ranges kind k =
    range 0 kind 3 ∷ range 0 (get_or k.leds 0 0) 1 ∷ range 0 (get_or k.leds 1 0) 1 ∷ range 0 (get_or k.leds 2 0) 1
    ∷ among k.charset charsets ∷ range 0 k.strings 1 ∷ range 0 k.repeat 1 ∷ range 1 k.delay 127 ∷ range 1 k.interval 127 ∷ among k.shift shifts ∷ []

-- every setting whose range depends on no other
unfoldable pub plain_ranges : Settings → List Check
plain_ranges s = range 0 s.tracking 1 ∷ range 0 s.secret 1 ∷ range 0 s.cursor 1 ∷ range 0 s.display 1 ∷ range 1 s.rule 2 ∷ key_ranges s.kind s.keys

-- the arrays are as long as their types say: two screens, three LEDs, twelve arrow codes, 31 patterns of 8 rows, twelve waiting bytes, ten key texts of
-- 8 codes (P2), which are free, and the marks of two screens (P5)
unfoldable pub array_ranges : Settings → List Check
array_ranges s =
    range 2 (length s.places) 2 ∷ range 3 (length s.keys.leds) 3 ∷ range 12 (length s.keys.arrows) 12 ∷ range 248 (length s.patterns) 248 ∷ range 12 (length s.waiting) 12 ∷ range 80 (length s.texts) 80
    ∷ range 2 (length s.marks) 2 ∷ []

-- P11: "Mode 3 is sound with type 3, key display 1, screen 1 selected, screen 2's cursor and top at 1, its flag off": of mode, type, key display
-- and screen 2's place; "screen 1 selected" is that the selected one is among the screens
unfoldable pub alone_ranges : ℕ → ℕ → ℕ → Place → List Check
alone_ranges mode kind display p =
    cond (eqb mode 3) (range 3 kind 3 ∷ range 1 display 1 ∷ range 1 p.line 1 ∷ range 1 p.column 1 ∷ range 1 p.top 1 ∷ range 0 p.late 0 ∷ []) []

-- "Settings are sound exactly when"
pub record Sound (s : Settings) : Type 0 where
  pub arrays : InRanges (array_ranges s)
  pub shaped : Shaped s.mode s.lines1 s.lines2 s.columns1 s.columns2
  pub selected : s.selected < screens s
  pub inside : (k : ℕ) → k < screens s → Inside s k
  pub step_low : 1 ≤ s.step
  pub step_high : s.step ≤ height s
  pub plain : InRanges (plain_ranges s)
  pub line : LineSound s.waiting s.held s.count
  pub marked : (k : ℕ) → k < 2 → Marked (lines_of s k) (marks_of s k)
  pub alone : InRanges (alone_ranges s.mode s.kind s.display (place_of s 1))

-- what stands, fit to be served and painted: sound settings, "Cells: 3,840 bytes. Layer: 1,280 bytes", P11: "a dot store of 3,840 bytes"
pub record Good (st : State) : Type 0 where
  pub sound : Sound st.settings
  pub cells_are : length st.cells ≡ 3840
  pub layer_are : length st.layer ≡ 1280
  pub dots_are : length st.dots ≡ 3840

-- the same as a test: a cursor and a window in lines of columns, H tall, and the flag
unfoldable pub inside_ranges : ℕ → ℕ → ℕ → ℕ → Place → List Check
inside_ranges rule lines columns height p = range 1 p.line lines ∷ range 1 p.column columns ∷ range 1 p.top (lines + 1 - height) ∷ range 0 p.late (most_late rule columns p.column) ∷ []

-- the table of modes
unfoldable pub shape_ranges : ℕ → ℕ → ℕ → ℕ → ℕ → List Check
shape_ranges m l1 l2 c1 c2 =
    cond (eqb m 0)
    (range 80 c1 80 ∷ range 80 c2 80 ∷ range 8 l1 48 ∷ range 8 l2 (48 - l1) ∷ [])
    (cond (eqb m 1)
    (range 39 c1 39 ∷ range 39 c2 39 ∷ range 16 l1 48 ∷ range l1 l2 l1 ∷ [])
    (cond (eqb m 2)
    (range 1 c1 78 ∷ range (79 - c1) c2 (79 - c1) ∷ range 8 l1 48 ∷ range l1 l2 l1 ∷ [])
    (range 3 m 3 ∷ range 80 c1 80 ∷ range 0 c2 0 ∷ range 8 l1 8 ∷ range 0 l2 0 ∷ [])))

-- selection, of the screens that there are (P11), and "step is 1 to H"
unfoldable pub other_ranges : ℕ → ℕ → ℕ → ℕ → List Check
other_ranges screens selected step height = range 1 (selected + 1) screens ∷ range 1 step height ∷ []

-- a cursor and a window of screen k
unfoldable pub inside? : Settings → ℕ → Bool
inside? s k = in_ranges? (inside_ranges s.rule (lines_of s k) (columns_of s k) (height s) (place_of s k))

-- screen 2: a cursor and a window, or in mode 3 the place of none
unfoldable pub second? : Settings → Bool
second? s = cond (eqb s.mode 3) (in_ranges? (alone_ranges s.mode s.kind s.display (place_of s 1))) (inside? s 1)

-- the marks of screen k
unfoldable pub marks? : Settings → ℕ → Bool
marks? s k = marked? (lines_of s k) (marks_of s k)

-- the test of soundness
unfoldable pub sound? : Settings → Bool
sound? s =
    in_ranges? (array_ranges s)
    && (in_ranges? (shape_ranges s.mode s.lines1 s.lines2 s.columns1 s.columns2)
    && (in_ranges? (other_ranges (screens s) s.selected s.step (height s)) && (in_ranges? (plain_ranges s)
    && (inside? s 0 && (second? s && (line? s.waiting s.held s.count && (marks? s 0 && marks? s 1)))))))
