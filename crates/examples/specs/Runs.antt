-- Document 02, P1 and P2, by examples: several calls one after the other, each made of what the one before left, and what each must give.
use Rattle.std.specs.Prelude.{ℕ, Bool, true, false, List, [], ◌∷◌, replicate}
use Rattle.model.specs.declared.Settings.{Settings}
use Rattle.model.specs.State.{home, top_at, opened_settings, with_display, with_mode, with_line}
use Rattle.calls.specs.Calls.{Terminal, terminal, Asked, message, piece, closing, key_text, Request, request, served, answer_of, printed_by}
use Rattle.examples.specs.Examples.{Fact, counts, first_refusal, parameter, cursor_at, top, top_on, cursor_on, step, selected, columns, cell, layer, shows, blank, printed_byte, pattern, refused_by, waits, text, displayed, all_hold}

-- one call: what is asked, its printer room, and its facts
pub record Turn : Type 0 where
  pub asked : Asked
  pub room : ℕ
  pub facts : List Fact

-- with room for one copy
abbrev pub turn : Asked → List Fact → Turn
turn a fs = record { asked = a; room = 656; facts = fs }

-- with another room
abbrev pub roomy : ℕ → Asked → List Fact → Turn
roomy n a fs = record { asked = a; room = n; facts = fs }

-- calls one after the other, from some settings and blank stores
pub record Run : Type 0 where
  pub given : Settings
  pub turns : List Turn

-- from the opening, with rule 1
abbrev pub from_opening : List Turn → Run
from_opening ts = record { given = opened_settings 1; turns = ts }

-- from the opening settings with another line: the array, how many of it wait, the count
abbrev pub from_line : List ℕ → ℕ → ℕ → List Turn → Run
from_line w h n ts = record { given = with_line (opened_settings 1) w h n; turns = ts }

-- from other settings
abbrev pub from_settings : Settings → List Turn → Run
from_settings s ts = record { given = s; turns = ts }

-- every fact of every call, each from what the one before left
unfoldable pub turns_hold : Terminal → List Turn → Bool
turns_hold t [] = true
turns_hold t (x ∷ xs) =
    let q : Request = request x.asked x.room in
    elim (all_hold x.facts (served t q) (answer_of t q) (printed_by t q)) [ true ↦ turns_hold (served t q) xs | false ↦ false ]

-- every run of a list
unfoldable pub all_run : List Run → Bool
all_run [] = true
all_run (r ∷ rs) = elim (turns_hold (terminal r.given (replicate 3840 32) (replicate 1280 0) (replicate 3840 0) (replicate 640 32)) r.turns) [ true ↦ all_run rs | false ↦ false ]

-- the plan's rows, by their numbers (9 is must-fail/ of the crate `calls`), then rows of ours
unfoldable pub streams : List Run
streams =
    -- 1: an ESC waits for its byte; the refusal's offset is the stream's; taken is by request
    from_opening (turn (piece (65 ∷ 27 ∷ [])) (counts 2 0 0 0 ∷ shows 1 1 65 ∷ waits (27 ∷ []) 2 ∷ [])
    ∷ turn (piece (27 ∷ 66 ∷ [])) (counts 2 0 1 0 ∷ first_refusal 10 1 ∷ shows 1 2 66 ∷ waits [] 4 ∷ [])
    ∷ turn closing (counts 0 0 0 0 ∷ first_refusal 0 0 ∷ shows 1 2 66 ∷ waits [] 0 ∷ [])
    ∷ turn closing (counts 0 0 0 0 ∷ shows 1 2 66 ∷ waits [] 0 ∷ []) ∷ [])
    -- 2: 27, 209 waits at a piece's end; a message is 16 while bytes wait; its byte comes with the next piece
    ∷ from_opening (turn (piece (65 ∷ 65 ∷ 65 ∷ 65 ∷ 65 ∷ 27 ∷ 209 ∷ [])) (counts 7 0 0 0 ∷ cursor_at 1 6 ∷ waits (27 ∷ 209 ∷ []) 7 ∷ [])
    ∷ turn (message (65 ∷ [])) (refused_by 16 ∷ cursor_at 1 6 ∷ waits (27 ∷ 209 ∷ []) 7 ∷ [])
    ∷ turn (message (replicate 4097 65)) (refused_by 2 ∷ waits (27 ∷ 209 ∷ []) 7 ∷ [])
    ∷ turn (piece (27 ∷ [])) (counts 1 0 1 0 ∷ first_refusal 11 5 ∷ waits [] 8 ∷ []) ∷ [])
    -- 3: only closing means 0
    ∷ from_opening (turn (message (27 ∷ 209 ∷ 1 ∷ [])) (counts 3 1 0 0 ∷ selected 2 ∷ waits [] 0 ∷ [])
    ∷ turn (piece (27 ∷ 209 ∷ [])) (counts 2 0 0 0 ∷ selected 2 ∷ waits (27 ∷ 209 ∷ []) 2 ∷ [])
    ∷ turn closing (counts 0 1 0 0 ∷ selected 1 ∷ waits [] 0 ∷ []) ∷ [])
    -- 4: offsets past 4,096 (code 7 does nothing: 4,096 printed bytes are more than antt computes in one statement)
    ∷ from_opening (turn (piece (65 ∷ replicate 4095 7)) (counts 4096 0 0 0 ∷ cursor_at 1 2 ∷ waits [] 4096 ∷ [])
    ∷ turn (piece (27 ∷ 61 ∷ [])) (counts 2 0 0 0 ∷ waits (27 ∷ 61 ∷ []) 4098 ∷ [])
    ∷ turn (piece (99 ∷ 32 ∷ [])) (counts 2 0 1 0 ∷ first_refusal 11 4096 ∷ cursor_at 1 2 ∷ waits [] 4100 ∷ []) ∷ [])
    -- 5: 13 by the room of the call that brings the 80
    ∷ from_opening (roomy 656 (piece (27 ∷ 80 ∷ 27 ∷ [])) (counts 3 1 0 656 ∷ waits (27 ∷ []) 3 ∷ [])
    ∷ roomy 655 (piece (80 ∷ [])) (counts 1 0 1 0 ∷ first_refusal 13 2 ∷ waits [] 4 ∷ []) ∷ [])
    -- a copy over a cut, of the picture at that moment
    ∷ from_opening (turn (piece (66 ∷ 27 ∷ [])) (counts 2 0 0 0 ∷ waits (27 ∷ []) 2 ∷ [])
    ∷ turn (piece (80 ∷ [])) (counts 1 1 0 656 ∷ printed_byte 0 66 ∷ printed_byte 1 32 ∷ printed_byte 655 10 ∷ waits [] 3 ∷ []) ∷ [])
    -- 6: 15 past the limit, not at it; closing works there, and an empty piece
    ∷ from_line (replicate 12 0) 0 999999999
    (turn (piece (65 ∷ 66 ∷ [])) (refused_by 15 ∷ cursor_at 1 1 ∷ waits [] 999999999 ∷ [])
    ∷ turn (piece (27 ∷ [])) (counts 1 0 0 0 ∷ waits (27 ∷ []) 1000000000 ∷ [])
    ∷ turn (piece (80 ∷ [])) (refused_by 15 ∷ waits (27 ∷ []) 1000000000 ∷ [])
    ∷ turn (piece []) (counts 0 0 0 0 ∷ waits (27 ∷ []) 1000000000 ∷ [])
    ∷ turn closing (counts 0 0 1 0 ∷ first_refusal 12 999999999 ∷ waits [] 0 ∷ []) ∷ [])
    -- 7: a message between counts from itself and leaves the count
    ∷ from_opening (turn (piece (65 ∷ [])) (counts 1 0 0 0 ∷ waits [] 1 ∷ [])
    ∷ turn (message (66 ∷ 27 ∷ [])) (counts 2 0 1 0 ∷ first_refusal 12 1 ∷ shows 1 2 66 ∷ waits [] 1 ∷ [])
    ∷ turn (piece (27 ∷ [])) (counts 1 0 0 0 ∷ waits (27 ∷ []) 2 ∷ [])
    ∷ turn (message []) (refused_by 16 ∷ waits (27 ∷ []) 2 ∷ [])
    ∷ turn closing (counts 0 0 1 0 ∷ first_refusal 12 1 ∷ waits [] 0 ∷ []) ∷ [])
    -- 8: a pattern's rows come from both pieces
    ∷ from_opening (turn (piece (27 ∷ 224 ∷ 224 ∷ 1 ∷ 2 ∷ 3 ∷ [])) (counts 6 0 0 0 ∷ waits (27 ∷ 224 ∷ 224 ∷ 1 ∷ 2 ∷ 3 ∷ []) 6 ∷ pattern 224 1 0 ∷ [])
    ∷ turn (piece (4 ∷ 5 ∷ 6 ∷ 7 ∷ 8 ∷ 27 ∷ 99 ∷ []))
    (counts 7 1 1 0 ∷ first_refusal 10 11 ∷ pattern 224 1 1 ∷ pattern 224 2 2 ∷ pattern 224 3 3 ∷ pattern 224 4 4 ∷ pattern 224 5 5 ∷ pattern 224 6 6 ∷ pattern 224 7 7 ∷ pattern 224 8 8 ∷ pattern 225 1 0 ∷ waits [] 13 ∷ []) ∷ [])
    -- 10: unsound lines: longer than the count; a whole sequence; a printed byte; past the limit; more held than there are; a dirty tail
    ∷ from_line (27 ∷ replicate 11 0) 1 0 (turn closing (refused_by 3 ∷ []) ∷ turn (piece (65 ∷ [])) (refused_by 3 ∷ []) ∷ turn (message (65 ∷ [])) (refused_by 3 ∷ []) ∷ [])
    ∷ from_line (27 ∷ 208 ∷ 9 ∷ replicate 9 0) 3 3 (turn closing (refused_by 3 ∷ []) ∷ [])
    ∷ from_line (65 ∷ replicate 11 0) 1 1 (turn closing (refused_by 3 ∷ []) ∷ [])
    ∷ from_line (replicate 12 0) 0 1000000001 (turn closing (refused_by 3 ∷ []) ∷ turn (piece []) (refused_by 3 ∷ []) ∷ [])
    ∷ from_line (27 ∷ 198 ∷ replicate 10 0) 13 13 (turn closing (refused_by 3 ∷ []) ∷ [])
    ∷ from_line (27 ∷ 1 ∷ replicate 10 0) 1 1 (turn closing (refused_by 3 ∷ []) ∷ [])
    -- and sound ones: 27, 209 with a count of 2; 12 bytes of a 13
    ∷ from_line (27 ∷ 209 ∷ replicate 10 0) 2 2 (turn closing (counts 0 1 0 0 ∷ waits [] 0 ∷ []) ∷ [])
    ∷ from_line (27 ∷ 198 ∷ replicate 10 0) 12 12 (turn (piece (1 ∷ 65 ∷ [])) (counts 2 1 0 0 ∷ shows 1 1 65 ∷ waits [] 14 ∷ []) ∷ [])
    -- 208 keeps the line; a mode setting byte by byte; a piece over 4,096 bytes is 2, at any count
    ∷ from_opening (turn (piece (65 ∷ 27 ∷ 208 ∷ [])) (counts 3 0 0 0 ∷ waits (27 ∷ 208 ∷ []) 3 ∷ [])
    ∷ turn (piece (1 ∷ [])) (counts 1 0 0 0 ∷ waits (27 ∷ 208 ∷ 1 ∷ []) 4 ∷ columns 80 80 ∷ [])
    ∷ turn (piece (16 ∷ [])) (counts 1 1 0 0 ∷ waits [] 5 ∷ columns 39 39 ∷ cell 1 1 1 32 ∷ [])
    ∷ turn (piece (replicate 4097 65)) (refused_by 2 ∷ waits [] 5 ∷ [])
    ∷ turn closing (counts 0 0 0 0 ∷ waits [] 0 ∷ columns 39 39 ∷ []) ∷ [])
    ∷ []

-- P2: the plan's rows, by their numbers (10 is must-fail/ of the crates `model` and `calls`), then rows of ours
unfoldable pub key_lines : List Run
key_lines =
    -- 1: 211 lowers step to H, and 148 is judged by it
    from_opening (turn (message (27 ∷ 148 ∷ 8 ∷ 27 ∷ 211 ∷ 0 ∷ [])) (counts 6 2 0 0 ∷ step 7 ∷ [])
    ∷ turn (message (27 ∷ 148 ∷ 8 ∷ [])) (counts 3 0 1 0 ∷ first_refusal 11 0 ∷ parameter 1 ∷ step 7 ∷ []) ∷ [])
    -- 2: the window has seven lines; 61 as 215: half of 7 is 3
    ∷ from_opening (turn (message (27 ∷ 211 ∷ 0 ∷ replicate 10 10)) (cursor_at 11 1 ∷ top 5 ∷ [])
    ∷ turn (message (27 ∷ 61 ∷ 43 ∷ 32 ∷ [])) (cursor_at 12 1 ∷ top 9 ∷ []) ∷ [])
    -- 3: the other screen's top is held too; its cells and cursor stay
    ∷ from_opening (turn (message (27 ∷ 209 ∷ 1 ∷ 66 ∷ 27 ∷ 211 ∷ 0 ∷ 27 ∷ 213 ∷ [])) (top_on 2 18 ∷ cursor_on 2 1 2 ∷ cell 2 1 1 66 ∷ [])
    ∷ turn (message (27 ∷ 209 ∷ 0 ∷ 27 ∷ 211 ∷ 1 ∷ [])) (selected 1 ∷ top_on 1 1 ∷ top_on 2 17 ∷ cursor_on 2 1 2 ∷ cell 2 1 1 66 ∷ []) ∷ [])
    -- 4: mode 1's right half starts seven lines after the left, and printing there empties its place; H is 14
    ∷ from_opening (turn (message (27 ∷ 211 ∷ 0 ∷ 27 ∷ 208 ∷ 1 ∷ 16 ∷ 27 ∷ 210 ∷ 1 ∷ 42 ∷ 90 ∷ 27 ∷ 61 ∷ 39 ∷ 32 ∷ 65 ∷ []))
    (cell 1 8 1 65 ∷ layer 1 42 0 0 ∷ shows 1 42 65 ∷ shows 8 1 32 ∷ displayed 1 0 0 32 ∷ []) ∷ [])
    ∷ from_opening (turn (message (27 ∷ 208 ∷ 1 ∷ 16 ∷ 27 ∷ 148 ∷ 16 ∷ 27 ∷ 211 ∷ 0 ∷ [])) (counts 10 3 0 0 ∷ step 14 ∷ [])
    ∷ turn (message (27 ∷ 213 ∷ [])) (top 3 ∷ [])
    ∷ turn (message (27 ∷ 211 ∷ 1 ∷ [])) (top 1 ∷ step 14 ∷ []) ∷ [])
    -- 5: the same value keeps the layer, another empties it
    ∷ from_opening (turn (message (27 ∷ 210 ∷ 2 ∷ 3 ∷ 90 ∷ 27 ∷ 211 ∷ 1 ∷ [])) (counts 8 2 0 0 ∷ layer 2 3 1 90 ∷ [])
    ∷ turn (message (27 ∷ 211 ∷ 0 ∷ [])) (layer 2 3 0 0 ∷ blank ∷ []) ∷ [])
    -- 6: a cell on the line below the window is shown nowhere; printing there leaves row 8's mark
    ∷ from_opening (turn (message (27 ∷ 211 ∷ 0 ∷ 27 ∷ 149 ∷ 1 ∷ 27 ∷ 210 ∷ 8 ∷ 1 ∷ 90 ∷ 27 ∷ 61 ∷ 39 ∷ 32 ∷ 65 ∷ []))
    (cell 1 8 1 65 ∷ layer 8 1 1 90 ∷ shows 8 1 90 ∷ []) ∷ [])
    -- 7: 211 itself does not track
    ∷ from_opening (turn (message (10 ∷ 10 ∷ 10 ∷ 10 ∷ 10 ∷ 10 ∷ 10 ∷ 27 ∷ 211 ∷ 0 ∷ [])) (cursor_at 8 1 ∷ top 1 ∷ [])
    ∷ turn (message (13 ∷ [])) (cursor_at 8 1 ∷ top 2 ∷ []) ∷ [])
    -- 8: a key call paints nothing; the next message shows and copies its text
    ∷ from_opening (turn (message (27 ∷ 211 ∷ 0 ∷ [])) (blank ∷ text 10 (replicate 8 32) ∷ [])
    ∷ turn (key_text 10 (replicate 8 65)) (counts 0 0 0 0 ∷ first_refusal 0 0 ∷ text 10 (replicate 8 65) ∷ text 9 (replicate 8 32) ∷ blank ∷ [])
    ∷ turn (message (27 ∷ 80 ∷ []))
    (counts 2 1 0 656 ∷ shows 8 72 32 ∷ shows 8 73 65 ∷ shows 8 80 65 ∷ shows 7 80 32 ∷ printed_byte 645 32 ∷ printed_byte 646 65 ∷ printed_byte 653 65 ∷ printed_byte 654 13 ∷ []) ∷ [])
    -- 9: the limits of lines stay, although a window of 7 or 14 would fit fewer; such settings are 3
    ∷ from_opening (turn (message (27 ∷ 211 ∷ 0 ∷ 27 ∷ 208 ∷ 0 ∷ 7 ∷ 24 ∷ [])) (counts 8 1 1 0 ∷ first_refusal 11 3 ∷ parameter 2 ∷ [])
    ∷ turn (message (27 ∷ 208 ∷ 1 ∷ 15 ∷ [])) (counts 4 0 1 0 ∷ first_refusal 11 0 ∷ parameter 2 ∷ [])
    ∷ turn (message (27 ∷ 208 ∷ 2 ∷ 7 ∷ 40 ∷ 35 ∷ [])) (counts 6 0 1 0 ∷ first_refusal 11 0 ∷ parameter 2 ∷ []) ∷ [])
    ∷ from_settings (with_mode (with_display (opened_settings 1) 0 (home ∷ home ∷ []) 1) 0 7 24 80 80 32) (turn (message []) (refused_by 3 ∷ []) ∷ [])
    ∷ from_settings (with_mode (with_display (opened_settings 1) 0 (home ∷ home ∷ []) 1) 1 15 15 39 39 32) (turn (message []) (refused_by 3 ∷ []) ∷ [])
    -- 1 to 0 moves no top, 0 to 1 the selected screen's too; soundness by the H of the display: step 8 and top 18
    ∷ from_opening (turn (message (27 ∷ 213 ∷ 27 ∷ 211 ∷ 0 ∷ [])) (top 17 ∷ []) ∷ turn (message (27 ∷ 213 ∷ [])) (top 18 ∷ []) ∷ turn (message (27 ∷ 211 ∷ 1 ∷ [])) (top 17 ∷ []) ∷ [])
    ∷ from_settings (with_display (opened_settings 1) 0 (home ∷ home ∷ []) 8) (turn (message []) (refused_by 3 ∷ []) ∷ [])
    ∷ from_settings (with_display (opened_settings 1) 1 (home ∷ top_at 18 home ∷ []) 8) (turn (message []) (refused_by 3 ∷ []) ∷ [])
    ∷ from_settings (with_display (opened_settings 1) 0 (top_at 18 home ∷ top_at 18 home ∷ []) 7) (turn (message []) (counts 0 0 0 0 ∷ []) ∷ [])
    -- a key is 1 to 10 and a text has 8 bytes: 17, nothing changed; 3 comes first
    ∷ from_opening (turn (key_text 0 (replicate 8 65)) (refused_by 17 ∷ text 1 (replicate 8 32) ∷ []) ∷ turn (key_text 11 (replicate 8 65)) (refused_by 17 ∷ text 10 (replicate 8 32) ∷ [])
    ∷ turn (key_text 257 (replicate 8 65)) (refused_by 17 ∷ text 1 (replicate 8 32) ∷ []) ∷ turn (key_text 1 (replicate 7 65)) (refused_by 17 ∷ text 1 (replicate 8 32) ∷ [])
    ∷ turn (key_text 1 (replicate 9 65)) (refused_by 17 ∷ text 1 (replicate 8 32) ∷ text 2 (replicate 8 32) ∷ []) ∷ [])
    ∷ from_line (replicate 12 0) 0 1000000001 (turn (key_text 11 []) (refused_by 3 ∷ []) ∷ [])
    -- any codes: the glass shows them as they are, a copy those below 32 as 32
    ∷ from_opening (turn (key_text 1 (1 ∷ 2 ∷ 3 ∷ 4 ∷ 5 ∷ 6 ∷ 7 ∷ 255 ∷ [])) (counts 0 0 0 0 ∷ text 1 (1 ∷ 2 ∷ 3 ∷ 4 ∷ 5 ∷ 6 ∷ 7 ∷ 255 ∷ []) ∷ text 2 (replicate 8 32) ∷ [])
    ∷ turn (message (27 ∷ 211 ∷ 0 ∷ 27 ∷ 80 ∷ [])) (counts 5 2 0 656 ∷ shows 8 1 1 ∷ shows 8 8 255 ∷ printed_byte 574 32 ∷ printed_byte 581 255 ∷ []) ∷ [])
    -- it is served while bytes wait, and leaves them
    ∷ from_opening (turn (piece (65 ∷ 27 ∷ [])) (waits (27 ∷ []) 2 ∷ []) ∷ turn (key_text 3 (replicate 8 66)) (counts 0 0 0 0 ∷ waits (27 ∷ []) 2 ∷ text 3 (replicate 8 66) ∷ [])
    ∷ turn (piece (211 ∷ 0 ∷ [])) (counts 2 1 0 0 ∷ waits [] 4 ∷ shows 8 17 66 ∷ shows 1 1 65 ∷ []) ∷ [])
    -- under display 1 row 8 shows text, and the key texts are kept for later
    ∷ from_opening (turn (key_text 1 (replicate 8 75)) (blank ∷ []) ∷ turn (message (27 ∷ 61 ∷ 39 ∷ 32 ∷ 65 ∷ [])) (shows 8 1 65 ∷ shows 8 2 32 ∷ [])
    ∷ turn (message (27 ∷ 211 ∷ 0 ∷ [])) (shows 8 1 75 ∷ shows 8 8 75 ∷ shows 8 9 32 ∷ []) ∷ [])
    -- row 8 in modes 1 and 2: columns 40 and 41 and the boundary's column too; 208 keeps display and texts
    ∷ from_opening (turn (key_text 5 (replicate 8 69)) [] ∷ turn (key_text 6 (replicate 8 70)) [] ∷ turn (key_text 3 (replicate 8 67)) []
    ∷ turn (message (27 ∷ 211 ∷ 0 ∷ 27 ∷ 208 ∷ 1 ∷ 16 ∷ [])) (shows 8 40 69 ∷ shows 8 41 70 ∷ shows 7 40 32 ∷ shows 7 41 32 ∷ [])
    ∷ turn (message (27 ∷ 208 ∷ 2 ∷ 10 ∷ 20 ∷ 35 ∷ [])) (shows 7 21 35 ∷ shows 8 21 67 ∷ shows 8 20 67 ∷ shows 8 22 67 ∷ text 3 (replicate 8 67) ∷ displayed 1 0 0 35 ∷ []) ∷ [])
    -- 210 covers row 8, and secret blanks it
    ∷ from_opening (turn (key_text 10 (replicate 8 65)) [] ∷ turn (message (27 ∷ 211 ∷ 0 ∷ 27 ∷ 210 ∷ 8 ∷ 80 ∷ 91 ∷ [])) (shows 8 79 65 ∷ shows 8 80 91 ∷ [])
    ∷ turn (message (27 ∷ 123 ∷ [])) (blank ∷ []) ∷ [])
    ∷ []
