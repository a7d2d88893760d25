-- Document 02, P9, by examples: the plan's rows by their numbers, then rows of ours. All start from an opening with rule 2 unless it is said.
use Rattle.std.specs.Prelude.{ℕ, Bool, ◌&&◌, List, [], ◌∷◌, ◌++◌, get_or, replicate, eqb}
use Rattle.model.specs.declared.Place.{Place}
use Rattle.model.specs.declared.Settings.{Settings}
use Rattle.model.specs.State.{home, put_at, late_at, opened_settings, with_mode, with_places}
use Rattle.calls.specs.Calls.{Terminal, piece, closing}
use Rattle.calls.specs.Opening.{opened_by, opening_number, unopened}
use Rattle.examples.specs.Examples.{Fact, counts, cursor_at, top, selected, columns, cell, blank_cells, refused_by, run_on, flags}
use Rattle.examples.specs.Runs.{Turn, turn, Run, from_settings}
use Rattle.examples.specs.LineRuns.{told}

-- a line full of A: the cursor is late in its last column
abbrev full : List ℕ
full = replicate 80 65

-- from an opening with rule 2
abbrev late : List Turn → Run
late = from_settings (opened_settings 2)

-- one message
abbrev once : List ℕ → List Fact → Run
once m fs = late (told m fs ∷ [])

-- from settings of an opening with a rule, screen 1's cursor in line 1, a column and with a flag
abbrev from_flag : ℕ → ℕ → ℕ → List Fact → Run
from_flag rule column flag fs = from_settings (with_places (opened_settings rule) (record { line = 1; column = column; top = 1; late = flag } ∷ home ∷ [])) (told [] fs ∷ [])

-- mode 2 with 20 columns and 59, under rule 2; and a cursor that is late in a column
abbrev narrow : Settings
narrow = with_mode (opened_settings 2) 2 10 10 20 59 35

abbrev late_in : ℕ → Place
late_in column = late_at (put_at 1 column home)

-- the plan's rows, and ours
unfoldable pub late_wraps : List Run
late_wraps =
    -- 1: the cursor is late, nothing is marked; the next byte steps first and marks the line left
    late (told full (cursor_at 1 80 ∷ flags 1 0 2 ∷ run_on 1 [] ∷ cell 1 1 80 65 ∷ []) ∷ told (66 ∷ []) (cell 1 2 1 66 ∷ cell 1 1 80 65 ∷ run_on 1 (1 ∷ []) ∷ cursor_at 2 2 ∷ flags 0 0 2 ∷ []) ∷ [])
    -- 2, 3, 4: 13, 8 and 10 clear the flag
    ∷ once (full ++ (13 ∷ 66 ∷ [])) (cell 1 1 1 66 ∷ cell 1 2 1 32 ∷ cursor_at 1 2 ∷ flags 0 0 2 ∷ run_on 1 [] ∷ [])
    ∷ once (full ++ (8 ∷ 66 ∷ [])) (cell 1 1 79 66 ∷ cursor_at 1 80 ∷ flags 0 0 2 ∷ run_on 1 [] ∷ [])
    ∷ once (full ++ (10 ∷ 66 ∷ [])) (cell 1 2 80 66 ∷ cursor_at 2 80 ∷ flags 1 0 2 ∷ run_on 1 [] ∷ [])
    -- 5: no lift until the next byte; 84 blanks the byte just stored and keeps the flag
    ∷ late (told (27 ∷ 61 ∷ 55 ∷ 111 ∷ 65 ∷ []) (cell 1 24 80 65 ∷ cursor_at 24 80 ∷ flags 1 0 2 ∷ []) ∷ told (27 ∷ 84 ∷ []) (blank_cells ∷ flags 1 0 2 ∷ [])
    ∷ told (66 ∷ []) (cell 1 24 1 66 ∷ cell 1 23 80 32 ∷ run_on 1 (23 ∷ []) ∷ cursor_at 24 2 ∷ flags 0 0 2 ∷ []) ∷ [])
    -- 6: code 10 on the last line lifts and clears the flag, the column kept
    ∷ late (told (27 ∷ 61 ∷ 55 ∷ 111 ∷ 65 ∷ 10 ∷ []) (cell 1 23 80 65 ∷ cell 1 24 80 32 ∷ cursor_at 24 80 ∷ flags 0 0 2 ∷ run_on 1 [] ∷ []) ∷ told (66 ∷ []) (cell 1 24 80 66 ∷ cell 1 23 80 65 ∷ flags 1 0 2 ∷ []) ∷ [])
    -- 7: 209 keeps it
    ∷ late (told (full ++ (27 ∷ 209 ∷ 1 ∷ [])) (selected 2 ∷ flags 1 0 2 ∷ []) ∷ told (27 ∷ 209 ∷ 0 ∷ 66 ∷ []) (cell 1 2 1 66 ∷ run_on 1 (1 ∷ []) ∷ flags 0 0 2 ∷ []) ∷ [])
    -- 8: a screen of one column
    ∷ once (27 ∷ 208 ∷ 2 ∷ 8 ∷ 1 ∷ 35 ∷ 65 ∷ 66 ∷ []) (columns 1 78 ∷ cell 1 1 1 65 ∷ cell 1 2 1 66 ∷ cursor_at 2 1 ∷ flags 1 0 2 ∷ run_on 1 (1 ∷ []) ∷ [])
    -- 10: unsound: a flag under rule 1, in column 79, a flag of 2, rules 0 and 3; and sound ones
    ∷ from_flag 1 80 1 (refused_by 3 ∷ [])
    ∷ from_flag 2 79 1 (refused_by 3 ∷ [])
    ∷ from_flag 2 80 2 (refused_by 3 ∷ [])
    ∷ from_flag 0 80 0 (refused_by 3 ∷ [])
    ∷ from_flag 3 80 1 (refused_by 3 ∷ [])
    ∷ from_flag 2 80 1 (counts 0 0 0 0 ∷ flags 1 0 2 ∷ [])
    ∷ from_flag 1 80 0 (counts 0 0 0 0 ∷ flags 0 0 1 ∷ [])
    -- each by its own screen's columns, here 20 and 59
    ∷ from_settings (with_places narrow (home ∷ late_in 20 ∷ [])) (told [] (refused_by 3 ∷ []) ∷ [])
    ∷ from_settings (with_places narrow (late_in 20 ∷ late_in 59 ∷ [])) (told [] (counts 0 0 0 0 ∷ flags 1 1 2 ∷ []) ∷ [])
    -- 12, 42 and 61 clear it, 61 onto the last column too; 208 both screens', and it keeps the rule
    ∷ once (full ++ (12 ∷ [])) (blank_cells ∷ cursor_at 1 1 ∷ flags 0 0 2 ∷ [])
    ∷ once (full ++ (27 ∷ 42 ∷ [])) (blank_cells ∷ flags 0 0 2 ∷ [])
    ∷ once (full ++ (27 ∷ 61 ∷ 32 ∷ 111 ∷ [])) (cursor_at 1 80 ∷ flags 0 0 2 ∷ [])
    ∷ once (full ++ (27 ∷ 209 ∷ 1 ∷ full)) (flags 1 1 2 ∷ [])
    ∷ once (full ++ (27 ∷ 209 ∷ 1 ∷ full ++ (27 ∷ 208 ∷ 0 ∷ 24 ∷ 24 ∷ []))) (flags 0 0 2 ∷ cursor_at 1 1 ∷ [])
    -- 42 and 12 clear the selected screen's alone
    ∷ once (full ++ (27 ∷ 209 ∷ 1 ∷ full ++ (27 ∷ 42 ∷ []))) (flags 1 0 2 ∷ [])
    ∷ once (full ++ (27 ∷ 209 ∷ 1 ∷ full ++ (27 ∷ 209 ∷ 0 ∷ 12 ∷ []))) (flags 0 1 2 ∷ [])
    -- a refused 61, 144, 145, 149, 151, 150, 210, 211, 213, 212, 214, 215, 89 and code 7 keep it
    ∷ once (full ++ (27 ∷ 61 ∷ 99 ∷ 32 ∷ 27 ∷ 144 ∷ 4 ∷ 1 ∷ 27 ∷ 145 ∷ 4 ∷ 1 ∷ 27 ∷ 149 ∷ 1 ∷ 27 ∷ 151 ∷ 27 ∷ 150 ∷ 27 ∷ 210 ∷ 1 ∷ 1 ∷ 90 ∷ 27 ∷ 211 ∷ 0 ∷ 27 ∷ 213 ∷ 27 ∷ 212 ∷ 27 ∷ 214 ∷ 1 ∷ 27 ∷ 215 ∷ 27 ∷ 89 ∷ 7 ∷ []))
    (counts 119 12 1 0 ∷ cursor_at 1 80 ∷ cell 1 1 79 65 ∷ cell 1 1 80 32 ∷ flags 1 0 2 ∷ [])
    -- 37 steps first too; the window follows once, at the end
    ∷ once (full ++ (27 ∷ 37 ∷ 7 ∷ [])) (cell 1 2 1 7 ∷ cursor_at 2 2 ∷ run_on 1 (1 ∷ []) ∷ [])
    ∷ late (told (27 ∷ 61 ∷ 39 ∷ 111 ∷ 65 ∷ []) (cursor_at 8 80 ∷ top 1 ∷ flags 1 0 2 ∷ []) ∷ told (66 ∷ []) (cursor_at 9 2 ∷ top 2 ∷ run_on 1 (8 ∷ []) ∷ []) ∷ [])
    -- the flag waits from piece to piece, and past closing
    ∷ late (turn (piece full) (flags 1 0 2 ∷ []) ∷ turn closing (flags 1 0 2 ∷ []) ∷ turn (piece (66 ∷ [])) (cell 1 2 1 66 ∷ flags 0 0 2 ∷ []) ∷ [])
    ∷ []

-- 9: stores of their sizes, and cells that are one byte short, all bytes 7
abbrev whole : Terminal
whole = unopened (replicate 3840 7) (replicate 1280 7) (replicate 3840 7) (replicate 640 7)

abbrev too_small : Terminal
too_small = unopened (replicate 3839 7) (replicate 1280 7) (replicate 3840 7) (replicate 640 7)

-- 9: an opening with a rule gives this number, this rule, and this first cell
abbrev opens : ℕ → Terminal → ℕ → ℕ → ℕ → Bool
opens rule d number after first = eqb (opening_number rule d) number && eqb (opened_by rule d).state.settings.rule after && eqb (get_or (opened_by rule d).state.cells 0 0) first

-- 9: "another rule number is 23, after 1; a refused opening returns rule 1"
unfoldable pub openings : Bool
openings =
    opens 3 whole 23 1 7 && (opens 3 too_small 1 1 7 && (opens 0 whole 23 1 7 && (opens 2 too_small 1 1 7 && (opens 1 whole 0 1 32 && opens 2 whole 0 2 32))))
