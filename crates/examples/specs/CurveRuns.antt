-- Document 02, P11, by examples: one message each, from an opening, most behind 27,208,3; and several calls one after the other.
use Rattle.std.specs.Prelude.{ℕ, ◌+◌, ◌-◌, ◌^◌, Bool, ◌&&◌, List, [], ◌∷◌, ◌++◌, get_or, length, replicate, set, eqb}
use Rattle.model.specs.declared.Settings.{Settings}
use Rattle.model.specs.State.{State, home, nowhere, put_at, top_at, late_at, opened_keys, opened_settings, with_display, with_flags, with_marks, with_mode, with_mode3, with_places, with_stored}
use Rattle.calls.specs.Calls.{Terminal, terminal, Asked, message, piece, closing, key_text, request, served, number_of}
use Rattle.calls.specs.Opening.{opened_by, opening_number, unopened}
use Rattle.examples.specs.Examples.{Example, example, with_room, all_are, counts, first_refusal, parameter, cursor_at, top, top_on, cursor_on, step, tracking, selected, lines, columns, cell, layer, shows, blank, blank_cells, printed_byte, refused_by, waits, text, run_on, flags, displayed, dot_byte, dot_bytes, no_dots}
use Rattle.examples.specs.Runs.{Run, turn, roomy, from_opening, from_settings}

-- 27,208,3, then these bytes
abbrev there : List ℕ → List ℕ
there bs = 27 ∷ 208 ∷ 3 ∷ bs

-- a sequence there that is refused by 11, names a parameter and draws nothing
abbrev names_there : ℕ → List ℕ → Example
names_there p bs = example (there bs) (counts (3 + length bs) 1 1 0 ∷ first_refusal 11 3 ∷ parameter p ∷ no_dots ∷ [])

-- 198 from horizontal, vertical to horizontal, vertical (all below 256), its two bytes of mask and its function
abbrev stroke : ℕ → ℕ → ℕ → ℕ → ℕ → ℕ → ℕ → List ℕ
stroke x y x' y' m m' f = 27 ∷ 198 ∷ 0 ∷ x ∷ 0 ∷ y ∷ 0 ∷ x' ∷ 0 ∷ y' ∷ m ∷ m' ∷ f ∷ []

-- the plan's rows, by their numbers (10 is dots_kept below, 11 in curve_runs, 12 in must-fail/ of the crate `model`), and rows of ours
unfoldable pub load_curve : List Example
load_curve =
    -- 1: 199, the first and the last dot; out of its ranges
    example (there (27 ∷ 199 ∷ 1 ∷ 0 ∷ 0 ∷ 0 ∷ [])) (counts 9 2 0 0 ∷ first_refusal 0 0 ∷ dot_byte 0 128 ∷ dot_byte 1 0 ∷ dot_byte 60 0 ∷ [])
    ∷ example (there (27 ∷ 199 ∷ 1 ∷ 63 ∷ 1 ∷ 223 ∷ [])) (counts 9 2 0 0 ∷ dot_byte 3839 1 ∷ dot_byte 3838 0 ∷ [])
    ∷ names_there 4 (27 ∷ 199 ∷ 1 ∷ 0 ∷ 1 ∷ 224 ∷ [])
    ∷ names_there 1 (27 ∷ 199 ∷ 2 ∷ 64 ∷ 2 ∷ 0 ∷ [])
    ∷ names_there 2 (27 ∷ 199 ∷ 1 ∷ 64 ∷ 2 ∷ 0 ∷ [])
    -- 2: the manual's line, every other dot of 383 from the start on: 3, 47 times 4, and 1, which are 192, and no other
    ∷ example (there (27 ∷ 198 ∷ 1 ∷ 144 ∷ 0 ∷ 18 ∷ 0 ∷ 18 ∷ 0 ∷ 18 ∷ 170 ∷ 170 ∷ 2 ∷ []))
    (counts 16 2 0 0 ∷ dot_bytes 0 1082 0 ∷ dot_byte 1082 42 ∷ dot_bytes 1083 47 170 ∷ dot_byte 1130 128 ∷ dot_bytes 1131 2709 0 ∷ [])
    -- 3: a half goes towards the end, so the line back has other dots
    ∷ example (there (stroke 0 0 2 1 255 255 2)) (counts 16 2 0 0 ∷ dot_byte 0 128 ∷ dot_byte 60 96 ∷ [])
    ∷ example (there (stroke 2 1 0 0 255 255 2)) (counts 16 2 0 0 ∷ dot_byte 0 192 ∷ dot_byte 60 32 ∷ [])
    -- 4: one dot, by the mask's first bit: 3 turns it over, 2 sets it, 1 clears it
    ∷ example (there (stroke 5 5 5 5 128 0 3)) (counts 16 2 0 0 ∷ dot_byte 300 4 ∷ [])
    ∷ example (there (stroke 5 5 5 5 128 0 3 ++ stroke 5 5 5 5 128 0 3)) (counts 29 3 0 0 ∷ no_dots ∷ [])
    ∷ example (there (stroke 5 5 5 5 127 255 3)) (counts 16 2 0 0 ∷ no_dots ∷ [])
    ∷ example (there (stroke 5 5 5 5 128 0 2 ++ stroke 5 5 5 5 128 0 2)) (dot_byte 300 4 ∷ [])
    ∷ example (there (stroke 5 5 5 5 128 0 2 ++ stroke 5 5 5 5 128 0 1)) (no_dots ∷ [])
    -- 5: down nine rows, mask bit 8 alone, the second byte's highest
    ∷ example (there (stroke 0 0 0 9 0 128 2)) (counts 16 2 0 0 ∷ dot_byte 480 128 ∷ dot_byte 420 0 ∷ dot_byte 540 0 ∷ dot_byte 0 0 ∷ [])
    -- the longer distance vertical, the other not 0; and 16 bits of mask, the second byte's 0, over and over
    ∷ example (there (stroke 0 0 1 2 255 255 2)) (counts 16 2 0 0 ∷ dot_byte 0 128 ∷ dot_byte 60 64 ∷ dot_byte 120 64 ∷ [])
    ∷ example (there (stroke 0 0 31 0 128 0 2)) (counts 16 2 0 0 ∷ dot_byte 0 128 ∷ dot_byte 1 0 ∷ dot_byte 2 128 ∷ dot_byte 3 0 ∷ [])
    -- 6: a two-byte number is named by its low byte, the mask never; the function last
    ∷ names_there 2 (27 ∷ 198 ∷ 1 ∷ 224 ∷ 0 ∷ 64 ∷ 0 ∷ 0 ∷ 0 ∷ 0 ∷ 255 ∷ 255 ∷ 2 ∷ [])
    ∷ names_there 4 (27 ∷ 198 ∷ 0 ∷ 0 ∷ 1 ∷ 0 ∷ 0 ∷ 0 ∷ 0 ∷ 0 ∷ 255 ∷ 255 ∷ 2 ∷ [])
    ∷ names_there 6 (27 ∷ 198 ∷ 0 ∷ 0 ∷ 0 ∷ 0 ∷ 2 ∷ 0 ∷ 0 ∷ 0 ∷ 255 ∷ 255 ∷ 2 ∷ [])
    ∷ names_there 8 (27 ∷ 198 ∷ 0 ∷ 0 ∷ 0 ∷ 0 ∷ 0 ∷ 0 ∷ 0 ∷ 64 ∷ 255 ∷ 255 ∷ 2 ∷ [])
    ∷ names_there 11 (stroke 0 0 0 0 255 255 0)
    ∷ names_there 11 (stroke 0 0 0 0 255 255 4)
    -- 7: 209 and its like are accepted whatever their byte, and do nothing: the layer, step, tracking, type and key display stay
    ∷ example (there (27 ∷ 210 ∷ 1 ∷ 1 ∷ 90 ∷ 27 ∷ 209 ∷ 7 ∷ [])) (counts 11 3 0 0 ∷ first_refusal 0 0 ∷ shows 1 1 90 ∷ layer 1 1 1 90 ∷ selected 1 ∷ [])
    ∷ example (there (27 ∷ 210 ∷ 1 ∷ 1 ∷ 90 ∷ 27 ∷ 148 ∷ 99 ∷ 27 ∷ 149 ∷ 9 ∷ 27 ∷ 150 ∷ 27 ∷ 151 ∷ 27 ∷ 211 ∷ 9 ∷ 27 ∷ 212 ∷ 27 ∷ 213 ∷ 27 ∷ 214 ∷ 4 ∷ 27 ∷ 215 ∷ []))
    (counts 30 11 0 0 ∷ step 1 ∷ top 1 ∷ displayed 1 3 1 32 ∷ layer 1 1 1 90 ∷ [])
    ∷ example (there (27 ∷ 148 ∷ 5 ∷ 27 ∷ 149 ∷ 1 ∷ 27 ∷ 211 ∷ 0 ∷ 27 ∷ 214 ∷ 0 ∷ 27 ∷ 209 ∷ 1 ∷ 65 ∷ [])) (counts 19 6 0 0 ∷ step 1 ∷ tracking 1 ∷ displayed 1 3 1 32 ∷ selected 1 ∷ shows 1 1 65 ∷ [])
    -- the others are judged as ever, by 8 lines of 80
    ∷ example (there (27 ∷ 61 ∷ 39 ∷ 111 ∷ 65 ∷ [])) (counts 8 2 0 0 ∷ cell 1 7 80 65 ∷ cursor_at 8 1 ∷ [])
    ∷ names_there 1 (27 ∷ 61 ∷ 40 ∷ 32 ∷ [])
    ∷ names_there 2 (27 ∷ 144 ∷ 0 ∷ 9 ∷ [])
    -- 8: 80 appends the dots, under secret too, which hides the text; 13 with less room
    ∷ with_room 3840 (there (65 ∷ 27 ∷ 199 ∷ 1 ∷ 0 ∷ 0 ∷ 0 ∷ 27 ∷ 123 ∷ 27 ∷ 80 ∷ [])) (counts 14 4 0 3840 ∷ printed_byte 0 128 ∷ printed_byte 1 0 ∷ printed_byte 3839 0 ∷ cell 1 1 1 65 ∷ shows 1 1 32 ∷ [])
    ∷ with_room 3839 (there (27 ∷ 80 ∷ [])) (counts 5 1 1 0 ∷ first_refusal 13 3 ∷ parameter 0 ∷ [])
    ∷ with_room 7679 (there (27 ∷ 80 ∷ 27 ∷ 80 ∷ [])) (counts 7 2 1 3840 ∷ first_refusal 13 5 ∷ [])
    -- in mode 0 it is the picture again
    ∷ with_room 656 (there (27 ∷ 208 ∷ 0 ∷ 24 ∷ 24 ∷ 65 ∷ 27 ∷ 80 ∷ [])) (counts 11 3 0 656 ∷ printed_byte 0 65 ∷ printed_byte 80 13 ∷ [])
    -- 9: an accepted 208 clears the dots; type and key display outlive the mode; a refused one leaves the dots
    ∷ example (there (27 ∷ 199 ∷ 1 ∷ 0 ∷ 0 ∷ 0 ∷ 27 ∷ 208 ∷ 0 ∷ 24 ∷ 24 ∷ [])) (counts 14 3 0 0 ∷ no_dots ∷ displayed 1 3 1 32 ∷ lines 24 24 ∷ columns 80 80 ∷ [])
    ∷ example (there (27 ∷ 199 ∷ 1 ∷ 0 ∷ 0 ∷ 0 ∷ 27 ∷ 208 ∷ 3 ∷ [])) (counts 12 3 0 0 ∷ no_dots ∷ [])
    ∷ example (there (27 ∷ 199 ∷ 1 ∷ 0 ∷ 0 ∷ 0 ∷ 27 ∷ 208 ∷ 9 ∷ 27 ∷ 208 ∷ 0 ∷ 7 ∷ 24 ∷ [])) (counts 17 2 2 0 ∷ first_refusal 11 9 ∷ parameter 1 ∷ dot_byte 0 128 ∷ lines 8 0 ∷ [])
    -- 208,3 as every 208: cells blank, layer empty, both cursors and tops at 1, step 1, tracking on, boundary and cursor off stay; and display 1
    ∷ example (27 ∷ 208 ∷ 2 ∷ 10 ∷ 20 ∷ 35 ∷ 27 ∷ 50 ∷ 27 ∷ 211 ∷ 0 ∷ 27 ∷ 148 ∷ 5 ∷ 27 ∷ 149 ∷ 1 ∷ 65 ∷ 27 ∷ 213 ∷ 27 ∷ 209 ∷ 1 ∷ 66 ∷ 27 ∷ 213 ∷ 27 ∷ 210 ∷ 1 ∷ 1 ∷ 90 ∷ there [])
    (counts 34 10 0 0 ∷ blank_cells ∷ blank ∷ layer 1 1 0 0 ∷ step 1 ∷ tracking 1 ∷ selected 1 ∷ cursor_at 1 1 ∷ top 1 ∷ cursor_on 2 1 1 ∷ top_on 2 1 ∷ lines 8 0 ∷ columns 80 0 ∷ displayed 0 3 1 35 ∷ no_dots ∷ [])
    -- 42 and code 12 clear dots and text there
    ∷ example (there (65 ∷ 27 ∷ 199 ∷ 1 ∷ 0 ∷ 0 ∷ 0 ∷ 27 ∷ 42 ∷ [])) (counts 12 3 0 0 ∷ no_dots ∷ shows 1 1 32 ∷ cursor_at 1 1 ∷ [])
    ∷ example (there (65 ∷ 27 ∷ 199 ∷ 1 ∷ 0 ∷ 0 ∷ 0 ∷ 12 ∷ [])) (counts 11 2 0 0 ∷ no_dots ∷ shows 1 1 32 ∷ [])
    -- a lift moves the text, not the dots; 84, 89, 144 and 145 do not touch them
    ∷ example (there (27 ∷ 199 ∷ 1 ∷ 8 ∷ 0 ∷ 0 ∷ 65 ∷ replicate 8 10)) (dot_byte 480 128 ∷ dot_byte 0 0 ∷ cursor_at 8 2 ∷ shows 1 1 32 ∷ top 1 ∷ [])
    ∷ example (there (27 ∷ 199 ∷ 1 ∷ 0 ∷ 0 ∷ 0 ∷ 27 ∷ 84 ∷ 27 ∷ 89 ∷ 27 ∷ 144 ∷ 0 ∷ 8 ∷ 27 ∷ 145 ∷ 0 ∷ 8 ∷ [])) (counts 21 6 0 0 ∷ dot_byte 0 128 ∷ [])
    -- one dot of a byte is cleared, its neighbour stays
    ∷ example (there (27 ∷ 199 ∷ 1 ∷ 0 ∷ 0 ∷ 0 ∷ 27 ∷ 199 ∷ 1 ∷ 0 ∷ 0 ∷ 1 ∷ 27 ∷ 199 ∷ 0 ∷ 0 ∷ 0 ∷ 0 ∷ [])) (counts 21 4 0 0 ∷ dot_byte 0 64 ∷ [])
    -- in mode 0 198 and 199 are accepted whatever their bytes, and draw nothing
    ∷ example (27 ∷ 199 ∷ 9 ∷ 99 ∷ 9 ∷ 9 ∷ 27 ∷ 199 ∷ 1 ∷ 0 ∷ 0 ∷ 0 ∷ 27 ∷ 198 ∷ replicate 11 255) (counts 25 3 0 0 ∷ first_refusal 0 0 ∷ no_dots ∷ [])
    ∷ []

-- the settings after an opening and 27,208,3
abbrev set3 : Settings
set3 = with_mode3 (opened_settings 1)

-- a message under these settings is refused by 3
abbrev unsound : Settings → Run
unsound s = from_settings s (turn (message []) (refused_by 3 ∷ []) ∷ [])

-- line l of screen k marked there
abbrev marked3 : ℕ → ℕ → Settings
marked3 k l = with_marks set3 (set (replicate 2 0) (k - 1) (2 ^ (l - 1)))

-- under rule 2 line 1 runs on, and the cursor is late at the end of line 2
abbrev over_and_waiting : List ℕ
over_and_waiting = 27 ∷ 61 ∷ 32 ∷ 111 ∷ 65 ∷ 66 ∷ 27 ∷ 61 ∷ 33 ∷ 111 ∷ 67 ∷ []

-- several calls
unfoldable pub curve_runs : List Run
curve_runs =
    -- 11: "Mode 3 is sound with type 3, key display 1, screen 1 selected, screen 2's cursor and top at 1, its flag off"; step 1 to 8 and tracking are free
    from_settings (with_flags set3 0 0 5 0 1) (turn (message (65 ∷ [])) (counts 1 0 0 0 ∷ shows 1 1 65 ∷ step 5 ∷ []) ∷ [])
    ∷ unsound (with_flags set3 0 1 9 0 1)
    ∷ unsound (with_stored set3 2 opened_keys (replicate 248 0))
    ∷ unsound (with_display set3 0 set3.places 1)
    ∷ unsound (with_flags set3 1 1 1 0 1)
    ∷ unsound (with_places set3 (home ∷ nowhere ∷ []))
    ∷ unsound (with_places set3 (home ∷ put_at 2 1 home ∷ []))
    ∷ unsound (with_places set3 (home ∷ put_at 1 2 home ∷ []))
    ∷ unsound (with_places set3 (home ∷ top_at 2 home ∷ []))
    ∷ unsound (with_places set3 (home ∷ late_at home ∷ []))
    ∷ unsound (with_mode (with_stored (opened_settings 1) 3 opened_keys (replicate 248 0)) 3 8 8 80 80 32)
    -- P5: screen 2 has no line to mark, and screen 1's last is its eighth
    ∷ unsound (marked3 2 1)
    ∷ unsound (marked3 1 8)
    ∷ from_settings (marked3 1 7) (turn (message []) (counts 0 0 0 0 ∷ run_on 1 (7 ∷ []) ∷ []) ∷ [])
    -- P9: screen 1's cursor may wait there; 208,3 clears both flags (and, P5, all marks) and keeps the rule
    ∷ from_settings (with_places (with_mode3 (opened_settings 2)) (late_at (put_at 1 80 home) ∷ home ∷ [])) (turn (message []) (counts 0 0 0 0 ∷ flags 1 0 2 ∷ []) ∷ [])
    ∷ from_settings (opened_settings 2) (turn (message (over_and_waiting ++ (27 ∷ 209 ∷ 1 ∷ over_and_waiting))) (flags 1 1 2 ∷ run_on 1 (1 ∷ []) ∷ run_on 2 (1 ∷ []) ∷ [])
    ∷ turn (message (there [])) (flags 0 0 2 ∷ run_on 1 [] ∷ run_on 2 [] ∷ []) ∷ [])
    -- P2: a key call is served there and not seen, now or later; 208,3 keeps the texts
    ∷ from_settings set3 (turn (key_text 1 (replicate 8 75)) (counts 0 0 0 0 ∷ text 1 (replicate 8 75) ∷ blank ∷ []) ∷ turn (message (27 ∷ 211 ∷ 0 ∷ [])) (counts 3 1 0 0 ∷ blank ∷ [])
    ∷ turn (message (there [])) (text 1 (replicate 8 75) ∷ blank ∷ []) ∷ [])
    -- P1: a stroke that comes in pieces, waiting 12 bytes long; 208,3 keeps what waits and the count
    ∷ from_opening (turn (piece (there (27 ∷ 198 ∷ 0 ∷ 5 ∷ 0 ∷ 5 ∷ 0 ∷ 5 ∷ 0 ∷ 5 ∷ 128 ∷ 0 ∷ []))) (counts 15 1 0 0 ∷ waits (27 ∷ 198 ∷ 0 ∷ 5 ∷ 0 ∷ 5 ∷ 0 ∷ 5 ∷ 0 ∷ 5 ∷ 128 ∷ 0 ∷ []) 15 ∷ no_dots ∷ [])
    ∷ turn (piece (3 ∷ [])) (counts 1 1 0 0 ∷ waits [] 16 ∷ dot_byte 300 4 ∷ []) ∷ turn closing (dot_byte 300 4 ∷ waits [] 0 ∷ []) ∷ [])
    -- the room is that of the call that brings the 80
    ∷ from_settings set3 (roomy 3840 (message (27 ∷ 80 ∷ [])) (counts 2 1 0 3840 ∷ []) ∷ roomy 3839 (message (27 ∷ 80 ∷ [])) (counts 2 0 1 0 ∷ first_refusal 13 0 ∷ []) ∷ [])
    ∷ []

-- what a message leaves, under some settings, of cells and dots whose bytes are 7
abbrev left_by : Settings → List ℕ → State
left_by s m = (served (terminal s (replicate 3840 7) (replicate 1280 0) (replicate 3840 7) (replicate 640 32)) (request (message m) 656)).state

-- 10: outside mode 3 neither 42 nor code 12, printing, 198, 199, 84, a refused 208 nor a lift touches dots, and an accepted 208 clears them; 12: in
-- mode 3 42 clears them, and blanks the screen's 640 cells
unfoldable pub dots_kept : Bool
dots_kept =
    let kept = (left_by (opened_settings 1) (27 ∷ 42 ∷ 12 ∷ 65 ∷ 27 ∷ 199 ∷ 1 ∷ 0 ∷ 0 ∷ 0 ∷ stroke 5 5 5 5 255 255 2 ++ (27 ∷ 84 ∷ 27 ∷ 208 ∷ 0 ∷ 7 ∷ 24 ∷ replicate 24 10))).dots in
    let anew = (left_by (opened_settings 1) (27 ∷ 208 ∷ 0 ∷ 24 ∷ 24 ∷ [])).dots in
    let wiped = left_by set3 (27 ∷ 42 ∷ []) in
    eqb (length kept) 3840 && all_are 7 kept && eqb (length anew) 3840 && all_are 0 anew && all_are 0 wiped.dots && eqb (get_or wiped.cells 639 0) 32 && eqb (get_or wiped.cells 640 0) 7

-- "1 covers the dot store": of 3,839 and of 3,841 bytes, for a message, a piece, a closing and an opening; "the opening clear[s] the dots", a refused one leaves them
unfoldable pub dots_sized : Bool
dots_sized =
    let number : Asked → ℕ → ℕ = λ a n. number_of (terminal (opened_settings 1) (replicate 3840 32) (replicate 1280 0) (replicate n 0) (replicate 640 32)) (request a 656) in
    let given : ℕ → Terminal = λ n. unopened (replicate 3840 32) (replicate 1280 0) (replicate n 7) (replicate 640 32) in
    eqb (number (message []) 3839) 1 && eqb (number (message []) 3840) 0 && eqb (number (message []) 3841) 1 && eqb (number (piece []) 3839) 1 && eqb (number (piece []) 3840) 0
    && eqb (number closing 3839) 1 && eqb (number closing 3840) 0 && eqb (opening_number 1 (given 3839)) 1 && eqb (opening_number 1 (given 3840)) 0
    && all_are 0 (opened_by 1 (given 3840)).state.dots && all_are 7 (opened_by 1 (given 3839)).state.dots
