-- Document 02, P5, by examples: the plan's rows by their numbers (8 is must-fail/ of the crate `model`), then rows of ours. A mark is made from bytes.
use Rattle.std.specs.Prelude.{ℕ, ◌+◌, ◌-◌, ◌^◌, List, [], ◌∷◌, ◌++◌, replicate, set}
use Rattle.model.specs.State.{opened_settings, with_marks}
use Rattle.calls.specs.Calls.{message}
use Rattle.examples.specs.Examples.{Fact, counts, cursor_at, columns, cell, blank_cells, refused_by, run_on}
use Rattle.examples.specs.Runs.{Turn, turn, Run, from_opening, from_settings}

-- a printed byte in the last column of line l: it runs on
abbrev wrap : ℕ → List ℕ
wrap l = 27 ∷ 61 ∷ (31 + l) ∷ 111 ∷ 65 ∷ []

-- the cursor in column 1 of line l
abbrev to : ℕ → List ℕ
to l = 27 ∷ 61 ∷ (31 + l) ∷ 32 ∷ []

-- a message
abbrev pub told : List ℕ → List Fact → Turn
told m fs = turn (message m) fs

-- one message from the opening
abbrev once : List ℕ → List Fact → Run
once m fs = from_opening (told m fs ∷ [])

-- from the opening settings with the mark of line l of screen k
abbrev from_mark : ℕ → ℕ → List Turn → Run
from_mark k l = from_settings (with_marks (opened_settings 1) (set (replicate 2 0) (k - 1) (2 ^ (l - 1))))

-- the plan's rows, and ours
unfoldable pub logical_lines : List Run
logical_lines =
    -- 1: 84 blanks both lines of a name and clears the mark
    from_opening (told (replicate 81 65) (run_on 1 (1 ∷ []) ∷ run_on 2 [] ∷ cursor_at 2 2 ∷ []) ∷ told (to 1 ++ (27 ∷ 84 ∷ [])) (counts 6 2 0 0 ∷ cell 1 1 1 32 ∷ cell 1 2 1 32 ∷ blank_cells ∷ run_on 1 [] ∷ []) ∷ [])
    -- 2: on the last line the lift carries the mark; 84 from the last column of 23 takes that cell and line 24 (the plan's
    -- 27,61,54,111,27,84, with a B in line 24 to be taken and a C in column 79 that stays)
    ∷ from_opening (told (wrap 24) (cursor_at 24 1 ∷ cell 1 23 80 65 ∷ run_on 1 (23 ∷ []) ∷ [])
    ∷ told (66 ∷ 27 ∷ 61 ∷ 54 ∷ 110 ∷ 67 ∷ 27 ∷ 84 ∷ []) (cursor_at 23 80 ∷ cell 1 23 79 67 ∷ cell 1 23 80 32 ∷ cell 1 24 1 32 ∷ run_on 1 [] ∷ []) ∷ [])
    -- 3: 145 and 144: the blank line, the line above the region and its last two lines (or only line) end unmarked
    ∷ once (wrap 1 ++ (wrap 2 ++ (27 ∷ 145 ∷ 0 ∷ 3 ∷ []))) (counts 14 3 0 0 ∷ run_on 1 [] ∷ [])
    ∷ once (wrap 1 ++ (wrap 2 ++ (27 ∷ 145 ∷ 0 ∷ 4 ∷ []))) (run_on 1 (2 ∷ []) ∷ cell 1 2 80 65 ∷ cell 1 3 80 65 ∷ [])
    ∷ once (wrap 1 ++ (wrap 2 ++ (27 ∷ 144 ∷ 1 ∷ 23 ∷ []))) (run_on 1 [] ∷ [])
    ∷ once (wrap 1 ++ (wrap 2 ++ (wrap 3 ++ (wrap 4 ++ (wrap 5 ++ (27 ∷ 145 ∷ 2 ∷ 4 ∷ [])))))) (run_on 1 (1 ∷ 4 ∷ []) ∷ [])
    ∷ once (wrap 1 ++ (wrap 2 ++ (wrap 3 ++ (27 ∷ 144 ∷ 2 ∷ 1 ∷ [])))) (run_on 1 (1 ∷ []) ∷ [])
    -- 144 carries marks too: {2, 3, 4} in lines 1 to 5 are {1, 2, 3}; a line below the region keeps its mark
    ∷ once (wrap 2 ++ (wrap 3 ++ (wrap 4 ++ (wrap 6 ++ (27 ∷ 144 ∷ 0 ∷ 5 ∷ []))))) (run_on 1 (1 ∷ 2 ∷ 3 ∷ 6 ∷ []) ∷ [])
    -- 4: a name over three lines, the cursor in its second: line 1 and its mark stay
    ∷ from_opening (told (replicate 165 65) (run_on 1 (1 ∷ 2 ∷ []) ∷ cursor_at 3 6 ∷ [])
    ∷ told (to 2 ++ (27 ∷ 84 ∷ [])) (cell 1 1 80 65 ∷ cell 1 2 1 32 ∷ cell 1 2 80 32 ∷ cell 1 3 5 32 ∷ run_on 1 (1 ∷ []) ∷ cursor_at 2 1 ∷ [])
    -- and 84 from line 1 now takes line 1 and 2
    ∷ told (66 ∷ to 1 ++ (27 ∷ 84 ∷ [])) (blank_cells ∷ run_on 1 [] ∷ []) ∷ [])
    -- from its first line 84 takes all three, and every mark
    ∷ once (replicate 165 65 ++ (to 1 ++ (27 ∷ 84 ∷ []))) (blank_cells ∷ run_on 1 [] ∷ [])
    -- 5: code 10 on the last line lifts marks and sets none
    ∷ once (wrap 1 ++ (wrap 2 ++ (wrap 3 ++ (to 24 ++ (10 ∷ []))))) (run_on 1 (1 ∷ 2 ∷ []) ∷ cursor_at 24 1 ∷ cell 1 2 80 65 ∷ cell 1 3 80 32 ∷ [])
    -- 6: a screen of one column
    ∷ once (27 ∷ 208 ∷ 2 ∷ 8 ∷ 1 ∷ 35 ∷ 65 ∷ 66 ∷ []) (columns 1 78 ∷ run_on 1 (1 ∷ 2 ∷ []) ∷ run_on 2 [] ∷ cursor_at 3 1 ∷ [])
    -- 7: unsound marks: on the last line, beyond it, beyond any line, on screen 2's last line; and a sound one
    ∷ from_mark 1 24 (told [] (refused_by 3 ∷ []) ∷ [])
    ∷ from_mark 1 48 (told [] (refused_by 3 ∷ []) ∷ [])
    ∷ from_mark 1 64 (told [] (refused_by 3 ∷ []) ∷ [])
    ∷ from_mark 2 24 (told [] (refused_by 3 ∷ []) ∷ [])
    ∷ from_mark 2 23 (told [] (counts 0 0 0 0 ∷ run_on 1 [] ∷ run_on 2 (23 ∷ []) ∷ []) ∷ [])
    -- 37 in the last column too; 8, 10, 13, 61, 209 and printing elsewhere in the line keep the mark
    ∷ once (27 ∷ 61 ∷ 32 ∷ 111 ∷ 27 ∷ 37 ∷ 7 ∷ []) (run_on 1 (1 ∷ []) ∷ cursor_at 2 1 ∷ [])
    ∷ once (wrap 1 ++ (8 ∷ 13 ∷ 10 ∷ to 1 ++ (66 ∷ 27 ∷ 209 ∷ 1 ∷ 27 ∷ 209 ∷ 0 ∷ []))) (run_on 1 (1 ∷ []) ∷ cell 1 1 1 66 ∷ [])
    -- 89 clears from the cursor's line on, the line above keeps its mark
    ∷ once (wrap 1 ++ (wrap 2 ++ (wrap 3 ++ (to 2 ++ (27 ∷ 89 ∷ []))))) (run_on 1 (1 ∷ []) ∷ cell 1 1 80 65 ∷ cell 1 2 80 32 ∷ cell 1 3 80 32 ∷ [])
    -- each screen has its own; 42 and code 12 clear one screen's, 208 all
    ∷ once (wrap 1 ++ (27 ∷ 209 ∷ 1 ∷ wrap 2 ++ wrap 3)) (run_on 1 (1 ∷ []) ∷ run_on 2 (2 ∷ 3 ∷ []) ∷ [])
    ∷ once (wrap 1 ++ (27 ∷ 209 ∷ 1 ∷ wrap 2 ++ (27 ∷ 42 ∷ []))) (run_on 1 (1 ∷ []) ∷ run_on 2 [] ∷ [])
    ∷ once (wrap 1 ++ (27 ∷ 209 ∷ 1 ∷ wrap 2 ++ (27 ∷ 209 ∷ 0 ∷ 12 ∷ []))) (run_on 1 [] ∷ run_on 2 (2 ∷ []) ∷ [])
    ∷ once (wrap 1 ++ (27 ∷ 209 ∷ 1 ∷ wrap 2 ++ (27 ∷ 208 ∷ 0 ∷ 24 ∷ 24 ∷ []))) (run_on 1 [] ∷ run_on 2 [] ∷ [])
    -- a refused sequence changes no mark
    ∷ once (wrap 1 ++ (27 ∷ 144 ∷ 24 ∷ 1 ∷ [])) (counts 9 1 1 0 ∷ run_on 1 (1 ∷ []) ∷ [])
    ∷ []
