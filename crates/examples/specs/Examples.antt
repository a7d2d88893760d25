-- Document 01, "Bays' examples": a message from the opening, with a printer room, and what it must give. All rows marked P; of the
-- rest those that say something of the rules; and rows of ours where the table is silent. Then a list for each request of document 02 that one
-- message shows; several calls one after the other are in Runs.
use Rattle.std.specs.Prelude.{ℕ, suc, zero, ◌+◌, ◌-◌, ◌*◌, Bool, true, false, ◌&&◌, cond, List, [], ◌∷◌, ◌++◌, length, get_or, take, drop, replicate, eqb}
use Rattle.model.specs.declared.Answer.{Answer}
use Rattle.model.specs.Bytes.{list_from}
use Rattle.model.specs.Checks.{member}
use Rattle.model.specs.Line.{padded}
use Rattle.model.specs.Marks.{marks_of, numbered}
use Rattle.model.specs.Screens.{lines_of, columns_of, place_of, cell_at}
use Rattle.calls.specs.Calls.{Terminal, Request, request, message, served, answer_of, printed_by}
use Rattle.calls.specs.Opening.{opened_terminal}

-- what an example says of the answer, of what is left and of the printer bytes; screens are 1 and 2 here
pub data Fact : Type 0 where
  counts : ℕ → ℕ → ℕ → ℕ → Fact  -- taken, accepted, refused, printed; number 0
  first_refusal : ℕ → ℕ → Fact  -- number and offset
  parameter : ℕ → Fact  -- that the first refusal names
  cursor_at : ℕ → ℕ → Fact  -- line and column, of screen 1
  top : ℕ → Fact  -- of screen 1
  top_on : ℕ → ℕ → Fact  -- screen and top
  cursor_on : ℕ → ℕ → ℕ → Fact  -- screen, line and column
  step : ℕ → Fact
  tracking : ℕ → Fact  -- 1 on, 0 off
  selected : ℕ → Fact
  lines : ℕ → ℕ → Fact  -- of screens 1 and 2
  columns : ℕ → ℕ → Fact
  cell : ℕ → ℕ → ℕ → ℕ → Fact  -- screen, line, column, byte
  layer : ℕ → ℕ → ℕ → ℕ → Fact  -- row, column, mark and code
  shows : ℕ → ℕ → ℕ → Fact  -- row, column, byte
  shows_down : ℕ → ℕ → Fact  -- a column, in all eight rows, and the byte
  blank : Fact  -- all 640 places
  blank_cells : Fact  -- all 3,840 cells
  printed_byte : ℕ → ℕ → Fact  -- printer byte by its number, from 0
  led : ℕ → ℕ → Fact  -- INS, CAPS, NUM as 1 to 3, and 0 or 1
  arrow : ℕ → ℕ → Fact  -- arrow code by its number, from 1
  pattern : ℕ → ℕ → ℕ → Fact  -- code, row from 1, byte
  refused_by : ℕ → Fact  -- the call's number; all counts 0
  waits : List ℕ → ℕ → Fact  -- the bytes that wait, the others of the array 0, and the stream's count
  text : ℕ → List ℕ → Fact  -- a key by its number, from 1, and its 8 codes
  run_on : ℕ → List ℕ → Fact  -- a screen, and its lines that run on: these and no other (P5)
  flags : ℕ → ℕ → ℕ → Fact  -- the waiting flags of screens 1 and 2, and the rule (P9)
  key_settings : ℕ → ℕ → ℕ → ℕ → ℕ → ℕ → Fact  -- set, key strings, repeat, its two numbers, shift
  dot_byte : ℕ → ℕ → Fact  -- byte of the dots by its number, from 0 (P11)
  dot_bytes : ℕ → ℕ → ℕ → Fact  -- from this byte of the dots on, so many, all of them this byte
  no_dots : Fact  -- all 3,840 bytes of the dots 0
  displayed : ℕ → ℕ → ℕ → ℕ → Fact  -- cursor on, its type, key display, boundary

-- every byte is c
abbrev pub all_are : ℕ → List ℕ → Bool
all_are c [] = true
all_are c (x ∷ xs) = elim (eqb x c) [ true ↦ all_are c xs | false ↦ false ]

-- rows 1 to n of a shown screen have byte b in column c
abbrev pub down? : ℕ → ℕ → ℕ → List ℕ → Bool
down? zero c b xs = true
down? (suc n) c b xs = elim (eqb (get_or xs (80 * n + (c - 1)) 0) b) [ true ↦ down? n c b xs | false ↦ false ]

-- the same bytes
abbrev pub same? : List ℕ → List ℕ → Bool
same? [] [] = true
same? [] (y ∷ ys) = false
same? (x ∷ xs) [] = false
same? (x ∷ xs) (y ∷ ys) = elim (eqb x y) [ true ↦ same? xs ys | false ↦ false ]

-- a fact, of what a call left, its answer and its printer bytes
unfoldable pub holds : Fact → Terminal → Answer → List ℕ → Bool
holds (counts t a r p) d w bs = eqb w.number 0 && eqb w.taken t && eqb w.accepted a && eqb w.refused r && eqb w.printed p && eqb (length bs) p
holds (first_refusal n o) d w bs = eqb w.first n && eqb w.offset o
holds (parameter p) d w bs = eqb w.parameter p
holds (cursor_at l c) d w bs = eqb (place_of d.state.settings 0).line l && eqb (place_of d.state.settings 0).column c
holds (top t) d w bs = eqb (place_of d.state.settings 0).top t
holds (top_on k t) d w bs = eqb (place_of d.state.settings (k - 1)).top t
holds (cursor_on k l c) d w bs = eqb (place_of d.state.settings (k - 1)).line l && eqb (place_of d.state.settings (k - 1)).column c
holds (step n) d w bs = eqb d.state.settings.step n
holds (tracking n) d w bs = eqb d.state.settings.tracking n
holds (selected k) d w bs = eqb (d.state.settings.selected + 1) k
holds (lines a b) d w bs = eqb (lines_of d.state.settings 0) a && eqb (lines_of d.state.settings 1) b
holds (columns a b) d w bs = eqb (columns_of d.state.settings 0) a && eqb (columns_of d.state.settings 1) b
holds (cell k l c b) d w bs = eqb (get_or d.state.cells (cell_at d.state.settings (k - 1) l c) 0) b
holds (layer r c m p) d w bs = eqb (get_or d.state.layer (80 * (r - 1) + (c - 1)) 2) m && eqb (get_or d.state.layer (640 + (80 * (r - 1) + (c - 1))) 2) p
holds (shows r c b) d w bs = eqb (get_or d.shown (80 * (r - 1) + (c - 1)) 0) b
holds (shows_down c b) d w bs = down? 8 c b d.shown
holds blank d w bs = eqb (length d.shown) 640 && all_are 32 d.shown
holds blank_cells d w bs = eqb (length d.state.cells) 3840 && all_are 32 d.state.cells
holds (printed_byte i b) d w bs = eqb (get_or bs i 0) b
holds (led k b) d w bs = eqb (get_or d.state.settings.keys.leds (k - 1) 2) b
holds (arrow k b) d w bs = eqb (get_or d.state.settings.keys.arrows (k - 1) 0) b
holds (pattern c r b) d w bs = eqb (get_or d.state.settings.patterns ((c - 224) * 8 + (r - 1)) 0) b
holds (refused_by n) d w bs = eqb w.number n && eqb w.taken 0 && eqb w.accepted 0 && eqb w.refused 0 && eqb w.first 0 && eqb w.offset 0 && eqb w.printed 0 && eqb (length bs) 0
holds (waits v n) d w bs = let s = d.state.settings in same? s.waiting (padded v) && eqb s.held (length v) && eqb s.count n
holds (text k x) d w bs = same? (take 8 (drop ((k - 1) * 8) d.state.settings.texts)) x
holds (run_on k ls) d w bs = eqb (marks_of d.state.settings (k - 1)) (numbered (λ l. cond (member l ls) 1 0) 1 48)
holds (flags a b r) d w bs = let s = d.state.settings in eqb (place_of s 0).late a && eqb (place_of s 1).late b && eqb s.rule r
holds (key_settings c s r a b h) d w bs = let k = d.state.settings.keys in eqb k.charset c && eqb k.strings s && eqb k.repeat r && eqb k.delay a && eqb k.interval b && eqb k.shift h
holds (dot_byte n b) d w bs = eqb (get_or d.state.dots n 0) b
holds (dot_bytes n k b) d w bs = same? (take k (drop n d.state.dots)) (replicate k b)
holds no_dots d w bs = eqb (length d.state.dots) 3840 && all_are 0 d.state.dots
holds (displayed o n e p) d w bs = let s = d.state.settings in eqb s.cursor o && eqb s.kind n && eqb s.display e && eqb s.boundary p

-- all facts of an example
unfoldable pub all_hold : List Fact → Terminal → Answer → List ℕ → Bool
all_hold [] d w bs = true
all_hold (f ∷ fs) d w bs = elim (holds f d w bs) [ true ↦ all_hold fs d w bs | false ↦ false ]

-- a message, its printer room, and its facts
pub record Example : Type 0 where
  pub sent : List ℕ
  pub room : ℕ
  pub facts : List Fact

-- with room for one copy
abbrev pub example : List ℕ → List Fact → Example
example m fs = record { sent = m; room = 656; facts = fs }

-- with another room
abbrev pub with_room : ℕ → List ℕ → List Fact → Example
with_room n m fs = record { sent = m; room = n; facts = fs }

-- from the opening (rule 1, document 01's), by the rules
unfoldable pub is_right : Example → Bool
is_right e =
    let q : Request = request (message e.sent) e.room in
    all_hold e.facts (served (opened_terminal 1) q) (answer_of (opened_terminal 1) q) (printed_by (opened_terminal 1) q)

-- every example of a list
unfoldable pub all_right : List Example → Bool
all_right [] = true
all_right (e ∷ es) = elim (is_right e) [ true ↦ all_right es | false ↦ false ]

-- refused by 11 at offset 0, all its bytes taken, nothing changed
abbrev pub refused11 : ℕ → List Fact
refused11 n = counts n 0 1 0 ∷ first_refusal 11 0 ∷ cursor_at 1 1 ∷ top 1 ∷ lines 24 24 ∷ columns 80 80 ∷ selected 1 ∷ blank_cells ∷ blank ∷ []

-- the table's rows marked P, in its order
unfoldable pub proved_rows : List Example
proved_rows =
    example [] (counts 0 0 0 0 ∷ first_refusal 0 0 ∷ blank ∷ blank_cells ∷ key_settings 85 1 1 32 16 0 ∷ displayed 1 0 1 32 ∷ [])
    ∷ example (65 ∷ []) (counts 1 0 0 0 ∷ shows 1 1 65 ∷ cell 1 1 1 65 ∷ cursor_at 1 2 ∷ [])
    ∷ example (replicate 10 10) (counts 10 0 0 0 ∷ cursor_at 11 1 ∷ top 4 ∷ [])
    ∷ example (27 ∷ 61 ∷ 43 ∷ 32 ∷ []) (counts 4 1 0 0 ∷ cursor_at 12 1 ∷ top 8 ∷ [])
    ∷ example (27 ∷ 61 ∷ 56 ∷ 32 ∷ []) (refused11 4)
    ∷ example (27 ∷ 61 ∷ 55 ∷ 111 ∷ []) (counts 4 1 0 0 ∷ cursor_at 24 80 ∷ [])
    ∷ example (27 ∷ 208 ∷ 0 ∷ 24 ∷ 25 ∷ []) (refused11 5)
    ∷ example (27 ∷ 208 ∷ 0 ∷ 24 ∷ 24 ∷ []) (counts 5 1 0 0 ∷ first_refusal 0 0 ∷ lines 24 24 ∷ [])
    ∷ example (27 ∷ 208 ∷ 0 ∷ 7 ∷ 24 ∷ []) (refused11 5)
    ∷ example (27 ∷ 208 ∷ 2 ∷ 10 ∷ 20 ∷ 35 ∷ []) (counts 6 1 0 0 ∷ columns 20 59 ∷ lines 10 10 ∷ shows_down 21 35 ∷ shows_down 20 32 ∷ shows_down 22 32 ∷ [])
    ∷ example (27 ∷ 144 ∷ 1 ∷ 24 ∷ []) (refused11 4)
    ∷ example (27 ∷ 144 ∷ 0 ∷ 24 ∷ []) (counts 4 1 0 0 ∷ first_refusal 0 0 ∷ [])
    ∷ example (27 ∷ 144 ∷ 0 ∷ 0 ∷ []) (refused11 4)
    ∷ example (27 ∷ 209 ∷ []) (counts 2 1 0 0 ∷ first_refusal 0 0 ∷ selected 1 ∷ [])
    ∷ example (27 ∷ 209 ∷ 65 ∷ []) (refused11 3)
    ∷ example (27 ∷ []) (counts 1 0 1 0 ∷ first_refusal 12 0 ∷ [])
    ∷ example (27 ∷ 37 ∷ 27 ∷ []) (counts 3 1 0 0 ∷ cell 1 1 1 27 ∷ cursor_at 1 2 ∷ [])
    ∷ []

-- rows of the table that are not marked, and the example of the program "show"
unfoldable pub other_rows : List Example
other_rows =
    example (replicate 80 65) (counts 80 0 0 0 ∷ cursor_at 2 1 ∷ shows 1 1 65 ∷ shows 1 80 65 ∷ shows 2 1 32 ∷ [])
    -- 24 of 10: one lift, on a screen with A and B in lines 1 and 2
    ∷ example (replicate 24 10) (counts 24 0 0 0 ∷ cursor_at 24 1 ∷ top 17 ∷ [])
    ∷ example (65 ∷ 13 ∷ 10 ∷ 66 ∷ 13 ∷ replicate 23 10) (counts 28 0 0 0 ∷ cursor_at 24 1 ∷ top 17 ∷ cell 1 1 1 66 ∷ cell 1 2 1 32 ∷ cell 1 24 1 32 ∷ [])
    -- the three tops 9, 17, 17
    ∷ example (27 ∷ 148 ∷ 8 ∷ 27 ∷ 151 ∷ []) (counts 5 2 0 0 ∷ top 9 ∷ [])
    ∷ example (27 ∷ 148 ∷ 8 ∷ 27 ∷ 151 ∷ 27 ∷ 151 ∷ []) (counts 7 3 0 0 ∷ top 17 ∷ [])
    ∷ example (27 ∷ 148 ∷ 8 ∷ 27 ∷ 151 ∷ 27 ∷ 151 ∷ 27 ∷ 151 ∷ []) (counts 9 4 0 0 ∷ top 17 ∷ [])
    -- a copy, by its room
    ∷ with_room 655 (27 ∷ 80 ∷ []) (counts 2 0 1 0 ∷ first_refusal 13 0 ∷ [])
    ∷ with_room 656 (27 ∷ 80 ∷ []) (counts 2 1 0 656 ∷ first_refusal 0 0 ∷ [])
    ∷ with_room 656 (27 ∷ 37 ∷ 7 ∷ 66 ∷ 27 ∷ 80 ∷ []) (counts 6 2 0 656 ∷ printed_byte 0 32 ∷ printed_byte 1 66 ∷ printed_byte 79 32 ∷ printed_byte 80 13 ∷ printed_byte 81 10 ∷ printed_byte 82 32 ∷ printed_byte 654 13 ∷ printed_byte 655 10 ∷ [])
    ∷ with_room 1311 (27 ∷ 80 ∷ 65 ∷ 27 ∷ 80 ∷ []) (counts 5 1 1 656 ∷ first_refusal 13 3 ∷ [])
    ∷ example (65 ∷ 27 ∷ 27 ∷ 66 ∷ []) (counts 4 0 1 0 ∷ first_refusal 10 1 ∷ shows 1 1 65 ∷ shows 1 2 66 ∷ [])
    ∷ []

-- A, B and C in lines 1, 2 and 3
abbrev abc : List ℕ
abc = 65 ∷ 13 ∷ 10 ∷ 66 ∷ 13 ∷ 10 ∷ 67 ∷ []

-- the same in lines 23, 24 and 22
abbrev last : List ℕ
last = 27 ∷ 61 ∷ 54 ∷ 32 ∷ 65 ∷ 27 ∷ 61 ∷ 55 ∷ 32 ∷ 66 ∷ 27 ∷ 61 ∷ 53 ∷ 32 ∷ 67 ∷ []

-- a sequence of one parameter, with each of these
abbrev each : ℕ → List ℕ → List ℕ
each c [] = []
each c (p ∷ ps) = 27 ∷ c ∷ p ∷ each c ps

-- the table of modes: both ends of its ranges
abbrev modes_in : List ℕ
modes_in =
    27 ∷ 208 ∷ 0 ∷ 8 ∷ 40 ∷ 27 ∷ 208 ∷ 0 ∷ 40 ∷ 8 ∷ 27 ∷ 208 ∷ 1 ∷ 16 ∷ 27 ∷ 208 ∷ 1 ∷ 48 ∷ 27 ∷ 208 ∷ 2 ∷ 8 ∷ 1 ∷ 0
    ∷ 27 ∷ 208 ∷ 2 ∷ 48 ∷ 78 ∷ 255 ∷ []

-- one beyond each
abbrev modes_out : List ℕ
modes_out =
    27 ∷ 208 ∷ 0 ∷ 8 ∷ 7 ∷ 27 ∷ 208 ∷ 0 ∷ 8 ∷ 41 ∷ 27 ∷ 208 ∷ 1 ∷ 15 ∷ 27 ∷ 208 ∷ 1 ∷ 49 ∷ 27 ∷ 208 ∷ 2 ∷ 7 ∷ 20 ∷ 35
    ∷ 27 ∷ 208 ∷ 2 ∷ 49 ∷ 20 ∷ 35 ∷ 27 ∷ 208 ∷ 2 ∷ 10 ∷ 0 ∷ 35 ∷ 27 ∷ 208 ∷ 2 ∷ 10 ∷ 79 ∷ 35 ∷ []

-- every letter of 67 and every state of 247
abbrev letters : List ℕ
letters =
    each 67 (85 ∷ 70 ∷ 71 ∷ 69 ∷ 68 ∷ 87 ∷ 73 ∷ 83 ∷ 78 ∷ []) ++ each 247 (0 ∷ 2 ∷ 4 ∷ 6 ∷ 16 ∷ 18 ∷ 32 ∷ 34 ∷ 64 ∷ 66 ∷ [])

-- both ends of the other ranges of one parameter
abbrev ends : List ℕ
ends =
    each 148 (1 ∷ 8 ∷ []) ++ (each 149 (0 ∷ 1 ∷ []) ++ (each 209 (0 ∷ 1 ∷ []) ++ (each 211 (0 ∷ 1 ∷ []) ++ (each 214 (0 ∷ 3 ∷ [])
    ++ (each 240 (0 ∷ 1 ∷ []) ++ (each 241 (1 ∷ 127 ∷ []) ++ each 242 (1 ∷ 127 ∷ [])))))))

-- one beyond each, and letters and states that are not there
abbrev beyond : List ℕ
beyond =
    each 67 (65 ∷ 117 ∷ []) ++ (each 247 (1 ∷ 8 ∷ []) ++ (each 148 (0 ∷ 9 ∷ []) ++ (each 149 (2 ∷ []) ++ (each 209 (2 ∷ [])
    ++ (each 211 (2 ∷ []) ++ (each 214 (4 ∷ []) ++ (each 240 (2 ∷ []) ++ (each 241 (0 ∷ 128 ∷ []) ++ each 242 (0 ∷ 128 ∷ [])))))))))

-- where the table is silent
unfoldable pub added : List Example
added =
    -- mode 1's picture: the left half's last column in row 8, and the window's ninth line right, in row 1
    example (27 ∷ 208 ∷ 1 ∷ 16 ∷ 65 ∷ 27 ∷ 61 ∷ 39 ∷ 70 ∷ 67 ∷ 68 ∷ []) (counts 11 2 0 0 ∷ columns 39 39 ∷ lines 16 16 ∷ shows 1 1 65 ∷ shows 8 39 67 ∷ shows_down 40 32 ∷ shows_down 41 32 ∷ shows 1 42 68 ∷ cursor_at 9 2 ∷ [])
    -- its last column right, in column 80, and the window's last line in row 8
    ∷ example (27 ∷ 208 ∷ 1 ∷ 16 ∷ 27 ∷ 61 ∷ 46 ∷ 70 ∷ 69 ∷ 27 ∷ 61 ∷ 47 ∷ 32 ∷ 70 ∷ []) (cell 1 15 39 69 ∷ shows 7 80 69 ∷ shows 8 42 70 ∷ cursor_at 16 2 ∷ top 1 ∷ [])
    -- the same with the window's top at 9: 215 by half of 16 from line 17
    ∷ example (27 ∷ 208 ∷ 1 ∷ 24 ∷ 27 ∷ 61 ∷ 48 ∷ 32 ∷ 65 ∷ 27 ∷ 215 ∷ []) (cursor_at 17 2 ∷ top 9 ∷ shows 1 42 65 ∷ shows 1 1 32 ∷ [])
    -- mode 2: each screen by its own top, the second behind the boundary
    ∷ example (27 ∷ 208 ∷ 2 ∷ 10 ∷ 20 ∷ 35 ∷ 65 ∷ 27 ∷ 209 ∷ 1 ∷ 66 ∷ 27 ∷ 61 ∷ 34 ∷ 32 ∷ 67 ∷ 27 ∷ 213 ∷ []) (counts 18 4 0 0 ∷ top 1 ∷ shows 1 1 65 ∷ shows 1 22 67 ∷ cell 2 1 1 66 ∷ cell 2 3 1 67 ∷ selected 2 ∷ [])
    -- a mark of the layer; printing there empties that place, 209 the whole layer, a lift too
    ∷ example (27 ∷ 210 ∷ 2 ∷ 3 ∷ 90 ∷ []) (shows 2 3 90 ∷ cell 1 2 3 32 ∷ layer 2 3 1 90 ∷ [])
    ∷ example (27 ∷ 210 ∷ 1 ∷ 1 ∷ 90 ∷ 27 ∷ 210 ∷ 8 ∷ 80 ∷ 91 ∷ 65 ∷ []) (shows 1 1 65 ∷ layer 1 1 0 0 ∷ shows 8 80 91 ∷ layer 8 80 1 91 ∷ [])
    ∷ example (27 ∷ 210 ∷ 1 ∷ 1 ∷ 90 ∷ 27 ∷ 209 ∷ 0 ∷ []) (counts 8 2 0 0 ∷ blank ∷ layer 1 1 0 0 ∷ [])
    ∷ example (27 ∷ 61 ∷ 55 ∷ 32 ∷ 27 ∷ 210 ∷ 1 ∷ 1 ∷ 90 ∷ 10 ∷ []) (blank ∷ layer 1 1 0 0 ∷ cursor_at 24 1 ∷ [])
    -- 212 with the top unmoved leaves it
    ∷ example (27 ∷ 210 ∷ 1 ∷ 1 ∷ 90 ∷ 27 ∷ 212 ∷ []) (shows 1 1 90 ∷ layer 1 1 1 90 ∷ [])
    -- secret over the layer, and printing under secret
    ∷ example (65 ∷ 27 ∷ 210 ∷ 1 ∷ 1 ∷ 90 ∷ 27 ∷ 123 ∷ []) (blank ∷ cell 1 1 1 65 ∷ layer 1 1 1 90 ∷ [])
    ∷ example (27 ∷ 210 ∷ 1 ∷ 1 ∷ 90 ∷ 27 ∷ 123 ∷ 65 ∷ 27 ∷ 125 ∷ []) (shows 1 1 65 ∷ layer 1 1 0 0 ∷ [])
    -- 144 and 145 at the screen's first and last lines: the region is a+1 to a+m, and no line outside changes
    ∷ example (abc ++ (27 ∷ 144 ∷ 0 ∷ 2 ∷ [])) (cell 1 1 1 66 ∷ cell 1 2 1 32 ∷ cell 1 3 1 67 ∷ [])
    ∷ example (abc ++ (27 ∷ 145 ∷ 0 ∷ 2 ∷ [])) (cell 1 1 1 32 ∷ cell 1 2 1 65 ∷ cell 1 3 1 67 ∷ [])
    ∷ example (last ++ (27 ∷ 144 ∷ 22 ∷ 2 ∷ [])) (cell 1 22 1 67 ∷ cell 1 23 1 66 ∷ cell 1 24 1 32 ∷ [])
    ∷ example (last ++ (27 ∷ 145 ∷ 22 ∷ 2 ∷ [])) (cell 1 22 1 67 ∷ cell 1 23 1 32 ∷ cell 1 24 1 65 ∷ [])
    ∷ example (27 ∷ 144 ∷ 23 ∷ 1 ∷ 27 ∷ 145 ∷ 24 ∷ 1 ∷ 27 ∷ 145 ∷ 0 ∷ 25 ∷ []) (counts 12 1 2 0 ∷ first_refusal 11 4 ∷ [])
    -- 84 and 89 take in the cursor's cell
    ∷ example (abc ++ (27 ∷ 61 ∷ 33 ∷ 32 ∷ 68 ∷ 69 ∷ 70 ∷ 27 ∷ 61 ∷ 33 ∷ 33 ∷ 27 ∷ 84 ∷ [])) (cell 1 1 1 65 ∷ cell 1 2 1 68 ∷ cell 1 2 2 32 ∷ cell 1 2 3 32 ∷ cell 1 3 1 67 ∷ [])
    ∷ example (abc ++ (27 ∷ 61 ∷ 33 ∷ 32 ∷ 68 ∷ 69 ∷ 70 ∷ 27 ∷ 61 ∷ 33 ∷ 33 ∷ 27 ∷ 89 ∷ [])) (cell 1 1 1 65 ∷ cell 1 2 1 68 ∷ cell 1 2 2 32 ∷ cell 1 2 3 32 ∷ cell 1 3 1 32 ∷ [])
    -- 84, 89, 144, 145 and a top that changes empty the layer
    ∷ example (27 ∷ 210 ∷ 2 ∷ 3 ∷ 90 ∷ 27 ∷ 84 ∷ []) (layer 2 3 0 0 ∷ [])
    ∷ example (27 ∷ 210 ∷ 2 ∷ 3 ∷ 90 ∷ 27 ∷ 89 ∷ []) (layer 2 3 0 0 ∷ [])
    ∷ example (27 ∷ 210 ∷ 2 ∷ 3 ∷ 90 ∷ 27 ∷ 144 ∷ 4 ∷ 1 ∷ []) (layer 2 3 0 0 ∷ [])
    ∷ example (27 ∷ 210 ∷ 2 ∷ 3 ∷ 90 ∷ 27 ∷ 145 ∷ 4 ∷ 1 ∷ []) (layer 2 3 0 0 ∷ [])
    ∷ example (27 ∷ 210 ∷ 2 ∷ 3 ∷ 90 ∷ 27 ∷ 151 ∷ []) (layer 2 3 0 0 ∷ top 2 ∷ [])
    -- without tracking the window stays; 150 stops at the least top
    ∷ example (27 ∷ 149 ∷ 1 ∷ replicate 10 10) (cursor_at 11 1 ∷ top 1 ∷ [])
    ∷ example (27 ∷ 213 ∷ 27 ∷ 148 ∷ 5 ∷ 27 ∷ 150 ∷ []) (top 12 ∷ [])
    ∷ example (27 ∷ 151 ∷ 27 ∷ 148 ∷ 8 ∷ 27 ∷ 150 ∷ []) (top 1 ∷ [])
    -- what is only stored, each by its own byte
    ∷ example (27 ∷ 160 ∷ 27 ∷ 164 ∷ 27 ∷ 67 ∷ 78 ∷ 27 ∷ 176 ∷ 27 ∷ 240 ∷ 0 ∷ 27 ∷ 241 ∷ 127 ∷ 27 ∷ 242 ∷ 1 ∷ 27 ∷ 247 ∷ 66 ∷ []) (led 1 1 ∷ led 2 0 ∷ led 3 1 ∷ key_settings 78 0 0 127 1 66 ∷ counts 21 8 0 0 ∷ [])
    ∷ example (27 ∷ 162 ∷ 27 ∷ 160 ∷ 27 ∷ 161 ∷ 27 ∷ 50 ∷ 27 ∷ 214 ∷ 3 ∷ 27 ∷ 211 ∷ 0 ∷ []) (led 1 0 ∷ led 2 1 ∷ led 3 0 ∷ displayed 0 3 0 32 ∷ counts 14 6 0 0 ∷ [])
    ∷ example (27 ∷ 243 ∷ 1 ∷ 2 ∷ 3 ∷ 4 ∷ 27 ∷ 244 ∷ 5 ∷ 6 ∷ 7 ∷ 8 ∷ 27 ∷ 245 ∷ 9 ∷ 10 ∷ 11 ∷ 12 ∷ []) (arrow 1 1 ∷ arrow 4 4 ∷ arrow 5 5 ∷ arrow 8 8 ∷ arrow 9 9 ∷ arrow 12 12 ∷ counts 18 3 0 0 ∷ [])
    ∷ example (27 ∷ 224 ∷ 230 ∷ 12 ∷ 12 ∷ 30 ∷ 63 ∷ 12 ∷ 18 ∷ 0 ∷ 0 ∷ []) (pattern 230 1 12 ∷ pattern 230 3 30 ∷ pattern 230 6 18 ∷ pattern 230 8 0 ∷ pattern 229 8 0 ∷ pattern 231 1 0 ∷ counts 11 1 0 0 ∷ [])
    -- a refused 208 changes nothing; 27,208,9 is three bytes and 11; 27,208 at the end is 12; 27,208,3 is accepted (P11)
    ∷ example (65 ∷ 27 ∷ 208 ∷ 0 ∷ 7 ∷ 24 ∷ []) (counts 6 0 1 0 ∷ first_refusal 11 1 ∷ shows 1 1 65 ∷ cell 1 1 1 65 ∷ cursor_at 1 2 ∷ lines 24 24 ∷ [])
    ∷ example (27 ∷ 208 ∷ 3 ∷ 65 ∷ 27 ∷ 208 ∷ 9 ∷ 27 ∷ 208 ∷ []) (counts 9 1 2 0 ∷ first_refusal 11 4 ∷ shows 1 1 65 ∷ cursor_at 1 2 ∷ lines 8 0 ∷ columns 80 0 ∷ displayed 1 3 1 32 ∷ [])
    ∷ example (27 ∷ 208 ∷ 9 ∷ []) (counts 3 0 1 0 ∷ first_refusal 11 0 ∷ [])
    ∷ example (27 ∷ 208 ∷ []) (counts 2 0 1 0 ∷ first_refusal 12 0 ∷ [])
    -- a sequence that is cut is 12 though a parameter is bad already
    ∷ example (27 ∷ 208 ∷ 2 ∷ 99 ∷ []) (counts 4 0 1 0 ∷ first_refusal 12 0 ∷ [])
    -- 213: the window's last line is the screen's
    ∷ example (27 ∷ 213 ∷ []) (counts 2 1 0 0 ∷ top 17 ∷ cursor_at 1 1 ∷ [])
    -- a second screen keeps its own cursor and cells
    ∷ example (65 ∷ 27 ∷ 209 ∷ 1 ∷ 66 ∷ 27 ∷ 209 ∷ []) (counts 7 2 0 0 ∷ cursor_at 1 2 ∷ cell 1 1 1 65 ∷ cell 2 1 1 66 ∷ shows 1 1 65 ∷ selected 1 ∷ [])
    -- a copy shows a mark of the layer, and blanks alone under secret
    ∷ with_room 1312 (65 ∷ 27 ∷ 210 ∷ 1 ∷ 1 ∷ 90 ∷ 27 ∷ 80 ∷ 27 ∷ 123 ∷ 27 ∷ 80 ∷ []) (counts 12 4 0 1312 ∷ printed_byte 0 90 ∷ printed_byte 656 32 ∷ printed_byte 736 13 ∷ [])
    -- each copy is the picture at its own moment
    ∷ with_room 1312 (27 ∷ 80 ∷ 65 ∷ 27 ∷ 80 ∷ []) (counts 5 2 0 1312 ∷ printed_byte 0 32 ∷ printed_byte 656 65 ∷ [])
    -- secret stays on over a 208, and hides the boundary
    ∷ example (27 ∷ 123 ∷ 27 ∷ 208 ∷ 2 ∷ 8 ∷ 20 ∷ 35 ∷ 65 ∷ []) (counts 9 2 0 0 ∷ cell 1 1 1 65 ∷ blank ∷ [])
    -- 208 blanks all cells and empties the layer
    ∷ example (66 ∷ 27 ∷ 210 ∷ 1 ∷ 1 ∷ 90 ∷ 27 ∷ 208 ∷ 1 ∷ 16 ∷ []) (blank_cells ∷ blank ∷ layer 1 1 0 0 ∷ cursor_at 1 1 ∷ [])
    -- it selects screen 1, sets step 1 and tracking on
    ∷ example (27 ∷ 148 ∷ 5 ∷ 27 ∷ 149 ∷ 1 ∷ 27 ∷ 209 ∷ 1 ∷ 27 ∷ 208 ∷ 0 ∷ 24 ∷ 24 ∷ replicate 10 10 ++ (27 ∷ 151 ∷ [])) (selected 1 ∷ top 5 ∷ [])
    -- other settings stay, the boundary too but in mode 2
    ∷ example (27 ∷ 208 ∷ 2 ∷ 8 ∷ 20 ∷ 35 ∷ 27 ∷ 50 ∷ 27 ∷ 214 ∷ 3 ∷ 27 ∷ 211 ∷ 0 ∷ 27 ∷ 67 ∷ 78 ∷ 27 ∷ 162 ∷ 27 ∷ 176 ∷ 27 ∷ 224 ∷ 224 ∷ 1 ∷ 2 ∷ 3 ∷ 4 ∷ 5 ∷ 6 ∷ 7 ∷ 8 ∷ 27 ∷ 243 ∷ 9 ∷ 9 ∷ 9 ∷ 9 ∷ 27 ∷ 208 ∷ 0 ∷ 24 ∷ 24 ∷ []) (displayed 0 3 0 35 ∷ key_settings 78 0 1 32 16 0 ∷ led 2 1 ∷ pattern 224 8 8 ∷ arrow 4 9 ∷ columns 80 80 ∷ [])
    -- the table of modes
    ∷ example modes_in (counts 30 6 0 0 ∷ lines 48 48 ∷ columns 78 1 ∷ [])
    ∷ example modes_out (counts 42 0 8 0 ∷ lines 24 24 ∷ columns 80 80 ∷ [])
    -- 42, and code 12, which is not counted
    ∷ example (replicate 10 10 ++ (65 ∷ 27 ∷ 210 ∷ 1 ∷ 1 ∷ 90 ∷ 27 ∷ 42 ∷ [])) (counts 18 2 0 0 ∷ cursor_at 1 1 ∷ top 1 ∷ layer 1 1 0 0 ∷ blank_cells ∷ [])
    ∷ example (replicate 10 10 ++ (65 ∷ 27 ∷ 210 ∷ 1 ∷ 1 ∷ 90 ∷ 12 ∷ [])) (counts 17 1 0 0 ∷ cursor_at 1 1 ∷ top 1 ∷ layer 1 1 0 0 ∷ blank_cells ∷ [])
    -- 8 stays at column 1, 10 keeps the column; other codes do nothing
    ∷ example (8 ∷ 65 ∷ 66 ∷ 8 ∷ 67 ∷ 10 ∷ 68 ∷ []) (counts 7 0 0 0 ∷ cell 1 1 1 65 ∷ cell 1 1 2 67 ∷ cell 1 2 3 68 ∷ cursor_at 2 4 ∷ [])
    ∷ example (list_from (λ n. n) 0 8 ++ (9 ∷ 11 ∷ list_from (λ n. n) 14 13 ++ list_from (λ n. n) 28 4)) (counts 27 0 0 0 ∷ cursor_at 1 1 ∷ blank_cells ∷ [])
    -- bytes from 127 on print; 37 prints any code, as the glass shows it
    ∷ example (127 ∷ 255 ∷ 27 ∷ 37 ∷ 0 ∷ 27 ∷ 37 ∷ 255 ∷ []) (counts 8 2 0 0 ∷ cell 1 1 1 127 ∷ cell 1 1 2 255 ∷ shows 1 3 0 ∷ cell 1 1 4 255 ∷ [])
    -- printing in the last place lifts
    ∷ example (27 ∷ 61 ∷ 55 ∷ 111 ∷ 65 ∷ []) (cursor_at 24 1 ∷ cell 1 23 80 65 ∷ cell 1 24 80 32 ∷ top 17 ∷ [])
    -- 84 and 89 reach the line's and the screen's last cell (145 has unmarked line 2: P5)
    ∷ example (27 ∷ 61 ∷ 32 ∷ 111 ∷ 65 ∷ 27 ∷ 145 ∷ 0 ∷ 2 ∷ 27 ∷ 61 ∷ 34 ∷ 32 ∷ 66 ∷ 27 ∷ 61 ∷ 33 ∷ 32 ∷ 27 ∷ 84 ∷ []) (counts 20 5 0 0 ∷ cell 1 2 80 32 ∷ cell 1 3 1 66 ∷ [])
    ∷ example (27 ∷ 61 ∷ 54 ∷ 111 ∷ 65 ∷ 27 ∷ 145 ∷ 0 ∷ 24 ∷ 27 ∷ 61 ∷ 32 ∷ 32 ∷ 27 ∷ 89 ∷ []) (counts 15 4 0 0 ∷ blank_cells ∷ [])
    -- 212 from the last window; 148 and 151 by all of mode 1's window
    ∷ example (27 ∷ 213 ∷ 27 ∷ 212 ∷ []) (top 1 ∷ [])
    ∷ example (27 ∷ 208 ∷ 1 ∷ 48 ∷ 27 ∷ 148 ∷ 16 ∷ 27 ∷ 151 ∷ 27 ∷ 148 ∷ 17 ∷ []) (counts 12 3 1 0 ∷ top 17 ∷ [])
    -- a window below the cursor: by the least amount, for 61 as 215 does; one that shows its line stays
    ∷ example (27 ∷ 61 ∷ 43 ∷ 32 ∷ 27 ∷ 213 ∷ 65 ∷ []) (cursor_at 12 2 ∷ top 12 ∷ [])
    ∷ example (27 ∷ 213 ∷ 27 ∷ 61 ∷ 43 ∷ 32 ∷ []) (cursor_at 12 1 ∷ top 8 ∷ [])
    ∷ example (27 ∷ 213 ∷ 27 ∷ 61 ∷ 51 ∷ 32 ∷ []) (cursor_at 20 1 ∷ top 17 ∷ [])
    -- tracking on again; a top that it changes empties the layer
    ∷ example (27 ∷ 149 ∷ 1 ∷ 27 ∷ 149 ∷ 0 ∷ replicate 10 10) (top 4 ∷ [])
    ∷ example (27 ∷ 210 ∷ 2 ∷ 3 ∷ 90 ∷ replicate 8 10) (top 2 ∷ layer 2 3 0 0 ∷ [])
    ∷ example (27 ∷ 210 ∷ 2 ∷ 3 ∷ 90 ∷ 27 ∷ 61 ∷ 43 ∷ 32 ∷ []) (top 8 ∷ layer 2 3 0 0 ∷ [])
    -- what is switched on goes off, and on again
    ∷ example (27 ∷ 160 ∷ 27 ∷ 162 ∷ 27 ∷ 164 ∷ 27 ∷ 163 ∷ 27 ∷ 165 ∷ 27 ∷ 176 ∷ 27 ∷ 177 ∷ 27 ∷ 50 ∷ 27 ∷ 51 ∷ []) (counts 18 9 0 0 ∷ led 1 1 ∷ led 2 0 ∷ led 3 0 ∷ key_settings 85 1 1 32 16 0 ∷ displayed 1 0 1 32 ∷ [])
    -- the ranges of one parameter, the places of 61 and 210, the codes of 224
    ∷ example letters (counts 57 19 0 0 ∷ [])
    ∷ example ends (counts 48 16 0 0 ∷ [])
    ∷ example beyond (counts 45 0 15 0 ∷ [])
    ∷ example (27 ∷ 61 ∷ 31 ∷ 32 ∷ 27 ∷ 61 ∷ 32 ∷ 31 ∷ 27 ∷ 61 ∷ 32 ∷ 112 ∷ 27 ∷ 210 ∷ 0 ∷ 1 ∷ 9 ∷ 27 ∷ 210 ∷ 9 ∷ 1 ∷ 9 ∷ 27 ∷ 210 ∷ 1 ∷ 0 ∷ 9 ∷ 27 ∷ 210 ∷ 1 ∷ 81 ∷ 9 ∷ []) (counts 32 0 7 0 ∷ blank ∷ cursor_at 1 1 ∷ [])
    ∷ example (27 ∷ 224 ∷ 223 ∷ replicate 8 1 ++ (27 ∷ 224 ∷ 255 ∷ replicate 8 1 ++ (27 ∷ 224 ∷ 254 ∷ replicate 8 1))) (counts 33 1 2 0 ∷ pattern 254 8 1 ∷ pattern 253 8 0 ∷ [])
    -- 198, 199 and 246 take their bytes and do nothing
    ∷ example (27 ∷ 198 ∷ replicate 11 27 ++ (27 ∷ 199 ∷ 1 ∷ 2 ∷ 3 ∷ 4 ∷ 27 ∷ 246 ∷ 65 ∷ [])) (counts 22 3 0 0 ∷ cell 1 1 1 65 ∷ cursor_at 1 2 ∷ [])
    ∷ []

-- a sequence by itself that is refused by 11 and names a parameter
abbrev pub names : ℕ → List ℕ → Example
names p m = example m (counts (length m) 0 1 0 ∷ first_refusal 11 0 ∷ parameter p ∷ [])

-- document 02, P10: which parameter
unfoldable pub parameters : List Example
parameters =
    -- 144, 145: a, else m; only the sum: the later one, m; both bad: a
    names 1 (27 ∷ 144 ∷ 24 ∷ 1 ∷ [])
    ∷ names 2 (27 ∷ 144 ∷ 0 ∷ 0 ∷ [])
    ∷ names 2 (27 ∷ 144 ∷ 1 ∷ 24 ∷ [])
    ∷ names 1 (27 ∷ 144 ∷ 24 ∷ 0 ∷ [])
    ∷ names 2 (27 ∷ 145 ∷ 1 ∷ 24 ∷ [])
    ∷ names 1 (27 ∷ 145 ∷ 255 ∷ 255 ∷ [])
    -- 208: the mode byte is parameter 1, so n1 is 2, n2 and m are 3; only the sum: n2; of two bad ones the first
    ∷ names 3 (27 ∷ 208 ∷ 0 ∷ 255 ∷ 8 ∷ [])
    ∷ names 3 (27 ∷ 208 ∷ 0 ∷ 24 ∷ 7 ∷ [])
    ∷ names 2 (27 ∷ 208 ∷ 0 ∷ 7 ∷ 255 ∷ [])
    ∷ names 1 (27 ∷ 208 ∷ 9 ∷ [])
    ∷ names 1 (27 ∷ 208 ∷ 4 ∷ [])
    ∷ names 2 (27 ∷ 208 ∷ 1 ∷ 15 ∷ [])
    ∷ names 3 (27 ∷ 208 ∷ 2 ∷ 8 ∷ 79 ∷ 0 ∷ [])
    ∷ names 2 (27 ∷ 208 ∷ 2 ∷ 49 ∷ 79 ∷ 0 ∷ [])
    -- 61: line, else column; 210: row, else column, and p is free
    ∷ names 1 (27 ∷ 61 ∷ 56 ∷ 112 ∷ [])
    ∷ names 2 (27 ∷ 61 ∷ 55 ∷ 112 ∷ [])
    ∷ names 2 (27 ∷ 210 ∷ 8 ∷ 81 ∷ 0 ∷ [])
    ∷ names 1 (27 ∷ 210 ∷ 9 ∷ 81 ∷ 0 ∷ [])
    -- one parameter that is judged, whatever follows it
    ∷ names 1 (27 ∷ 67 ∷ 65 ∷ [])
    ∷ names 1 (27 ∷ 148 ∷ 9 ∷ [])
    ∷ names 1 (27 ∷ 149 ∷ 2 ∷ [])
    ∷ names 1 (27 ∷ 209 ∷ 2 ∷ [])
    ∷ names 1 (27 ∷ 211 ∷ 2 ∷ [])
    ∷ names 1 (27 ∷ 214 ∷ 4 ∷ [])
    ∷ names 1 (27 ∷ 224 ∷ 255 ∷ 0 ∷ 0 ∷ 0 ∷ 0 ∷ 0 ∷ 0 ∷ 0 ∷ 0 ∷ [])
    ∷ names 1 (27 ∷ 240 ∷ 2 ∷ [])
    ∷ names 1 (27 ∷ 241 ∷ 0 ∷ [])
    ∷ names 1 (27 ∷ 242 ∷ 128 ∷ [])
    ∷ names 1 (27 ∷ 247 ∷ 1 ∷ [])
    -- "For all other numbers it is 0"; a sequence that is cut is 12, though a parameter is bad already
    ∷ example (27 ∷ 27 ∷ []) (counts 2 0 1 0 ∷ first_refusal 10 0 ∷ parameter 0 ∷ [])
    ∷ example (27 ∷ 208 ∷ 2 ∷ 99 ∷ []) (counts 4 0 1 0 ∷ first_refusal 12 0 ∷ parameter 0 ∷ [])
    ∷ with_room 655 (27 ∷ 80 ∷ []) (counts 2 0 1 0 ∷ first_refusal 13 0 ∷ parameter 0 ∷ [])
    ∷ example (27 ∷ 208 ∷ 3 ∷ []) (counts 3 1 0 0 ∷ first_refusal 0 0 ∷ parameter 0 ∷ [])
    ∷ example (27 ∷ 61 ∷ 55 ∷ 111 ∷ []) (counts 4 1 0 0 ∷ first_refusal 0 0 ∷ parameter 0 ∷ [])
    -- of two refusals the first one's, also where it is another number
    ∷ example (65 ∷ 27 ∷ 61 ∷ 55 ∷ 112 ∷ 27 ∷ 61 ∷ 56 ∷ 32 ∷ []) (counts 9 0 2 0 ∷ first_refusal 11 1 ∷ parameter 2 ∷ [])
    ∷ example (27 ∷ 27 ∷ 27 ∷ 61 ∷ 56 ∷ 32 ∷ []) (counts 6 0 2 0 ∷ first_refusal 10 0 ∷ parameter 0 ∷ [])
    ∷ example (27 ∷ 61 ∷ 56 ∷ 32 ∷ 27 ∷ 27 ∷ []) (counts 6 0 2 0 ∷ first_refusal 11 0 ∷ parameter 1 ∷ [])
    ∷ []
