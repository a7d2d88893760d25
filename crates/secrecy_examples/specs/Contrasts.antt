-- Document 02, P8, by examples: two runs that meet all that is asked and differ in their cells, layer and key texts, so that the claim is not empty; and for each
-- thing that is asked two runs that lack it alone and are told apart ("no opening" and "secret on" by the same two).
use Rattle.std.specs.Prelude.{ℕ, Bool, true, ◌&&◌, List, [], ◌∷◌, map, length, replicate}
use Rattle.model.specs.declared.Settings.{Settings}
use Rattle.model.specs.Bytes.{written}
use Rattle.model.specs.State.{opened_settings, with_display, with_flags, with_mode3, with_texts}
use Rattle.calls.specs.Calls.{Terminal, terminal, Asked, message, piece, closing, key_text, pack, short, Call, request, served, answer_of, record_of, printed_by}
use Rattle.calls.specs.Opening.{opened_terminal}
use Rattle.examples.specs.Examples.{counts, first_refusal, cell, shows, printed_byte, refused_by, text, waits}
use Rattle.examples.specs.Runs.{Turn, turn, roomy, turns_hold}

-- a call that gives what the rules say, made of what stands
abbrev pub call_of : Terminal → Asked → List ℕ → Call
call_of t a buffer =
    let q = request a (length buffer) in
    record { asked = a; given = t; left = served t q; answer = answer_of t q; in_record = record_of t q; buffer = buffer; printer = written (printed_by t q) buffer }

-- calls one after the other, each with a printer buffer of 656 bytes b
unfoldable pub calls_of : ℕ → Terminal → List Asked → List Call
calls_of b t [] = []
calls_of b t (a ∷ rest) = call_of t a (replicate 656 b) ∷ calls_of b (call_of t a (replicate 656 b)).left rest

-- the opening settings but for secret and the key texts, all of one byte
abbrev pub secret_settings : ℕ → ℕ → Settings
secret_settings secret c = with_texts (with_flags (opened_settings 1) 0 1 1 secret 1) (replicate 80 c)

-- with a stale shown screen; cells, layer and key texts all of one byte
abbrev pub filled : ℕ → Terminal
filled c = terminal (secret_settings 1 c) (replicate 3840 c) (replicate 1280 c) (replicate 3840 0) (replicate 640 88)

-- what is typed, and what is seen of it whatever x and c: a short message on the stale screen, which stays stale but where it is painted; a key's text, which paints
-- nothing; the key line, and a copy in a pack, all blank; 37's parameter in a piece of its own (125 as a parameter is no ESC 125), and a
-- refused message 27, 125, which is not read. Only cells and texts tell
abbrev pub typed : ℕ → ℕ → List Turn
typed x c =
    turn (short (c ∷ [])) (counts 1 0 0 0 ∷ shows 1 1 32 ∷ shows 1 2 88 ∷ shows 8 80 32 ∷ cell 1 1 1 c ∷ [])
    ∷ turn (key_text 1 (replicate 8 c)) (counts 0 0 0 0 ∷ shows 1 2 88 ∷ text 1 (replicate 8 c) ∷ [])
    ∷ turn (message (27 ∷ 211 ∷ 0 ∷ [])) (counts 3 1 0 0 ∷ shows 1 2 32 ∷ shows 8 1 32 ∷ shows 8 80 32 ∷ [])
    ∷ turn (pack (1 ∷ 0 ∷ 1 ∷ 0 ∷ c ∷ 2 ∷ 0 ∷ 1 ∷ 0 ∷ 27 ∷ 80 ∷ [])) (counts 3 1 0 656 ∷ printed_byte 0 32 ∷ printed_byte 1 32 ∷ printed_byte 574 32 ∷ cell 1 1 2 c ∷ [])
    ∷ turn (piece (27 ∷ 37 ∷ [])) (counts 2 0 0 0 ∷ waits (27 ∷ 37 ∷ []) 2 ∷ [])
    ∷ turn (message (27 ∷ 125 ∷ [])) (refused_by 16 ∷ shows 1 1 32 ∷ [])
    ∷ turn (piece (x ∷ [])) (counts 1 1 0 0 ∷ shows 1 3 32 ∷ cell 1 1 3 x ∷ waits [] 3 ∷ [])
    ∷ turn closing (counts 0 0 0 0 ∷ shows 1 1 32 ∷ shows 8 1 32 ∷ waits [] 0 ∷ []) ∷ []

-- what is asked in turns
abbrev pub asked_in : List Turn → List Asked
asked_in xs = map (λ (x : Turn). x.asked) xs

-- the calls of such a run, from cells, layer and texts of one byte, and with that byte in the printer buffers
abbrev pub typed_calls : ℕ → ℕ → ℕ → List Call
typed_calls fill x c = calls_of fill (filled fill) (asked_in (typed x c))

-- two runs, each from its own start, and what each gives
pub record Contrast : Type 0 where
  pub start₁ : Terminal
  pub turns₁ : List Turn
  pub start₂ : Terminal
  pub turns₂ : List Turn

-- a contrast from its parts
abbrev pub contrast : Terminal → List Turn → Terminal → List Turn → Contrast
contrast a xs b ys = record { start₁ = a; turns₁ = xs; start₂ = b; turns₂ = ys }

-- all rows are as they say
unfoldable pub all_told : List Contrast → Bool
all_told [] = true
all_told (r ∷ rs) = (turns_hold r.start₁ r.turns₁ && turns_hold r.start₂ r.turns₂) && all_told rs

-- from the opening with secret on, or as it is given; cells and layer of other sizes
abbrev pub blank_with : ℕ → Terminal
blank_with secret = terminal (secret_settings secret 32) (replicate 3840 32) (replicate 1280 0) (replicate 3840 0) (replicate 640 32)

abbrev pub sized_as : ℕ → ℕ → Terminal
sized_as cells layer = terminal (secret_settings 1 32) (replicate cells 32) (replicate layer 0) (replicate 3840 0) (replicate 640 32)

-- with other settings
abbrev pub settled : Settings → Terminal
settled s = terminal s (replicate 3840 32) (replicate 1280 0) (replicate 3840 0) (replicate 640 32)

-- in mode 3, the dots all one byte
abbrev pub dotted : ℕ → ℕ → Terminal
dotted c d = terminal (with_mode3 (secret_settings 1 c)) (replicate 3840 c) (replicate 1280 c) (replicate 3840 d) (replicate 640 32)

-- two runs that meet all that is asked: the same is seen; in mode 3 the dots are printed (P11), which are equal
unfoldable pub unseen : List Contrast
unseen =
    contrast (filled 32) (typed 125 65) (filled 33) (typed 120 66)
    ∷ contrast (dotted 32 5) (roomy 3840 (message (65 ∷ 27 ∷ 80 ∷ [])) (counts 3 1 0 3840 ∷ printed_byte 0 5 ∷ shows 1 1 32 ∷ []) ∷ [])
    (dotted 33 5) (roomy 3840 (message (66 ∷ 27 ∷ 80 ∷ [])) (counts 3 1 0 3840 ∷ printed_byte 0 5 ∷ shows 1 1 32 ∷ []) ∷ [])
    ∷ []

-- what is asked, one thing after the other left out
unfoldable pub told : List Contrast
told =
    -- the same calls: of a piece the ESC waits
    contrast (blank_with 1) (turn (message (27 ∷ [])) (counts 1 0 1 0 ∷ first_refusal 12 0 ∷ []) ∷ []) (blank_with 1) (turn (piece (27 ∷ [])) (counts 1 0 0 0 ∷ []) ∷ [])
    -- stores of the same sizes, cells and layer: else 1
    ∷ contrast (blank_with 1) (turn (message []) (counts 0 0 0 0 ∷ []) ∷ []) (sized_as 3839 1280) (turn (message []) (refused_by 1 ∷ []) ∷ [])
    ∷ contrast (blank_with 1) (turn (message []) (counts 0 0 0 0 ∷ []) ∷ []) (sized_as 3840 1279) (turn (message []) (refused_by 1 ∷ []) ∷ [])
    -- as many codes of the key texts: else 3
    ∷ contrast (blank_with 1) (turn (message []) (counts 0 0 0 0 ∷ []) ∷ []) (settled (with_texts (secret_settings 1 32) (replicate 79 32))) (turn (message []) (refused_by 3 ∷ []) ∷ [])
    -- printer room of the same size: else 13
    ∷ contrast (blank_with 1) (roomy 656 (message (27 ∷ 80 ∷ [])) (counts 2 1 0 656 ∷ []) ∷ []) (blank_with 1) (roomy 655 (message (27 ∷ 80 ∷ [])) (counts 2 0 1 0 ∷ first_refusal 13 0 ∷ []) ∷ [])
    -- secret on
    ∷ contrast (blank_with 0) (turn (message (65 ∷ [])) (shows 1 1 65 ∷ []) ∷ []) (blank_with 0) (turn (message (66 ∷ [])) (shows 1 1 66 ∷ []) ∷ [])
    -- equal settings: under another key display H is 7
    ∷ contrast (blank_with 1) (turn (message (27 ∷ 148 ∷ 8 ∷ [])) (counts 3 1 0 0 ∷ []) ∷ [])
    (settled (let s = secret_settings 1 32 in with_display s 0 s.places 1)) (turn (message (27 ∷ 148 ∷ 8 ∷ [])) (counts 3 0 1 0 ∷ first_refusal 11 0 ∷ []) ∷ [])
    -- equal dots: in mode 3 they are printed
    ∷ contrast (dotted 32 5) (roomy 3840 (message (27 ∷ 80 ∷ [])) (counts 2 1 0 3840 ∷ printed_byte 0 5 ∷ []) ∷ []) (dotted 32 6) (roomy 3840 (message (27 ∷ 80 ∷ [])) (counts 2 1 0 3840 ∷ printed_byte 0 6 ∷ []) ∷ [])
    -- the same shown screen: a key call paints nothing
    ∷ contrast (filled 32) (turn (key_text 1 (replicate 8 65)) (counts 0 0 0 0 ∷ shows 1 1 88 ∷ []) ∷ []) (blank_with 1) (turn (key_text 1 (replicate 8 65)) (counts 0 0 0 0 ∷ shows 1 1 32 ∷ []) ∷ [])
    -- messages of the same length: else other bytes taken (code 0 does nothing)
    ∷ contrast (blank_with 1) (turn (message (65 ∷ [])) (counts 1 0 0 0 ∷ []) ∷ []) (blank_with 1) (turn (message (65 ∷ 0 ∷ [])) (counts 2 0 0 0 ∷ []) ∷ [])
    -- read as printed in both, not in one: else 10; in a pack too
    ∷ contrast (blank_with 1) (turn (message (65 ∷ 65 ∷ [])) (counts 2 0 0 0 ∷ []) ∷ []) (blank_with 1) (turn (message (27 ∷ 65 ∷ [])) (counts 2 0 1 0 ∷ first_refusal 10 0 ∷ []) ∷ [])
    ∷ contrast (blank_with 1) (turn (pack (2 ∷ 0 ∷ 1 ∷ 0 ∷ 65 ∷ 65 ∷ [])) (counts 2 0 0 0 ∷ []) ∷ []) (blank_with 1) (turn (pack (2 ∷ 0 ∷ 1 ∷ 0 ∷ 27 ∷ 65 ∷ [])) (counts 2 0 1 0 ∷ first_refusal 10 0 ∷ []) ∷ [])
    -- bytes that are no character's value equal: a parameter, else 11; a record's kind, else 21
    ∷ contrast (blank_with 1) (turn (message (27 ∷ 209 ∷ 1 ∷ [])) (counts 3 1 0 0 ∷ []) ∷ []) (blank_with 1) (turn (message (27 ∷ 209 ∷ 65 ∷ [])) (counts 3 0 1 0 ∷ first_refusal 11 0 ∷ []) ∷ [])
    ∷ contrast (blank_with 1) (turn (pack (1 ∷ 0 ∷ 1 ∷ 0 ∷ 65 ∷ [])) (counts 1 0 0 0 ∷ []) ∷ []) (blank_with 1) (turn (pack (1 ∷ 0 ∷ 2 ∷ 0 ∷ 65 ∷ [])) (refused_by 21 ∷ []) ∷ [])
    -- of a key call the key, and how many codes: else 17
    ∷ contrast (blank_with 1) (turn (key_text 1 (replicate 8 65)) (counts 0 0 0 0 ∷ []) ∷ []) (blank_with 1) (turn (key_text 11 (replicate 8 65)) (refused_by 17 ∷ []) ∷ [])
    ∷ contrast (blank_with 1) (turn (key_text 1 (replicate 8 65)) (counts 0 0 0 0 ∷ []) ∷ []) (blank_with 1) (turn (key_text 1 (replicate 7 65)) (refused_by 17 ∷ []) ∷ [])
    -- no ESC 125, over a cut too: the cells are painted
    ∷ contrast (blank_with 1) (turn (message (65 ∷ [])) (shows 1 1 32 ∷ []) ∷ turn (piece (27 ∷ [])) (shows 1 1 32 ∷ []) ∷ turn (piece (125 ∷ [])) (shows 1 1 65 ∷ []) ∷ [])
    (blank_with 1) (turn (message (66 ∷ [])) (shows 1 1 32 ∷ []) ∷ turn (piece (27 ∷ [])) (shows 1 1 32 ∷ []) ∷ turn (piece (125 ∷ [])) (shows 1 1 66 ∷ []) ∷ [])
    -- no opening: it ends secret and begins another list, so this is the row of secret on once more
    ∷ contrast (opened_terminal 1) (turn (message (65 ∷ [])) (shows 1 1 65 ∷ []) ∷ []) (opened_terminal 1) (turn (message (66 ∷ [])) (shows 1 1 66 ∷ []) ∷ [])
    ∷ []
