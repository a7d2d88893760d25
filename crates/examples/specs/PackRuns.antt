-- Document 02, P6, by examples: the plan's rows by their numbers (7 is must-fail/ of the crate `calls`), then rows of ours. Calls one after the other, as in Runs, each with the
-- record of its first refusal.
use Rattle.std.specs.Prelude.{ℕ, ◌/◌, ◌%◌, Bool, true, false, ◌&&◌, not, List, [], ◌∷◌, ◌++◌, length, replicate, eqb}
use Rattle.model.specs.State.{opened_settings, with_line}
use Rattle.calls.specs.Calls.{Terminal, terminal, message, piece, key_text, pack, Request, request, number_of, record_of, served, answer_of, printed_by}
use Rattle.calls.specs.Lists.{claimed}
use Rattle.examples.specs.Examples.{Fact, counts, first_refusal, parameter, cursor_at, selected, cell, shows, blank, printed_byte, refused_by, waits, text, all_hold}
use Rattle.examples.specs.Runs.{Turn, turn, roomy}

-- a record of a message: its length and kind 1, then the message
abbrev one : List ℕ → List ℕ
one m = length m % 256 ∷ length m / 256 ∷ 1 ∷ 0 ∷ m

-- a call whose first refusal is in record n
pub record Recorded : Type 0 where
  pub call : Turn
  pub in_record : ℕ

-- a pack with room for one copy, and with another room; a call that has no record
abbrev packs : List ℕ → ℕ → List Fact → Recorded
packs p n fs = record { call = turn (pack p) fs; in_record = n }

abbrev packs_in : ℕ → List ℕ → ℕ → List Fact → Recorded
packs_in room p n fs = record { call = roomy room (pack p) fs; in_record = n }

abbrev plain : Turn → Recorded
plain x = record { call = x; in_record = 0 }

-- stores as an opening leaves them
abbrev opened : Terminal
opened = terminal (opened_settings 1) (replicate 3840 32) (replicate 1280 0) (replicate 3840 0) (replicate 640 32)

-- every fact of every call, each from what the one before left
unfoldable pub records_hold : Terminal → List Recorded → Bool
records_hold t [] = true
records_hold t (x ∷ xs) =
    let q : Request = request x.call.asked x.call.room in
    elim (eqb (record_of t q) x.in_record && all_hold x.call.facts (served t q) (answer_of t q) (printed_by t q)) [ true ↦ records_hold (served t q) xs | false ↦ false ]

-- every run of a list, from the opening
unfoldable pub all_packed : List (List Recorded) → Bool
all_packed [] = true
all_packed (r ∷ rs) = elim (records_hold opened r) [ true ↦ all_packed rs | false ↦ false ]

unfoldable pub pack_runs : List (List Recorded)
pack_runs =
    -- 1: 12 is each body's own, and 80 alone prints
    (packs (1 ∷ 0 ∷ 1 ∷ 0 ∷ 27 ∷ 1 ∷ 0 ∷ 1 ∷ 0 ∷ 80 ∷ []) 1 (counts 2 0 1 0 ∷ first_refusal 12 0 ∷ cell 1 1 1 80 ∷ shows 1 1 80 ∷ cursor_at 1 2 ∷ []) ∷ [])
    -- 2: each has the room left over; a byte more is room for both, and the second copy follows the first
    ∷ (packs_in 1311 (one (27 ∷ 80 ∷ []) ++ (one [] ++ one (27 ∷ 80 ∷ []))) 3 (counts 4 1 1 656 ∷ first_refusal 13 0 ∷ []) ∷ [])
    ∷ (packs_in 1312 (one (66 ∷ 27 ∷ 80 ∷ []) ++ one (67 ∷ 27 ∷ 80 ∷ [])) 0
    (counts 6 2 0 1312 ∷ first_refusal 0 0 ∷ printed_byte 0 66 ∷ printed_byte 1 32 ∷ printed_byte 655 10 ∷ printed_byte 656 66 ∷ printed_byte 657 67 ∷ printed_byte 1311 10 ∷ []) ∷ [])
    -- 3: a cut record behind an unknown kind; both bytes of the kind; an unknown kind before a message too long, and that message
    ∷ (packs (1 ∷ 0 ∷ 2 ∷ 0 ∷ 65 ∷ 1 ∷ 0 ∷ 1 ∷ []) 0 (refused_by 20 ∷ blank ∷ [])
    ∷ packs (0 ∷ 0 ∷ 1 ∷ 1 ∷ []) 0 (refused_by 21 ∷ []) ∷ packs (0 ∷ 0 ∷ 0 ∷ 1 ∷ []) 0 (refused_by 21 ∷ [])
    ∷ packs (0 ∷ 0 ∷ 9 ∷ 0 ∷ one (replicate 4097 65)) 0 (refused_by 21 ∷ []) ∷ packs (one [] ++ one (replicate 4097 65)) 0 (refused_by 2 ∷ blank ∷ [])
    ∷ packs (one (65 ∷ replicate 4095 7)) 0 (counts 4096 0 0 0 ∷ cursor_at 1 2 ∷ []) ∷ [])
    -- 4: while bytes wait
    ∷ (plain (turn (piece (65 ∷ 27 ∷ [])) (waits (27 ∷ []) 2 ∷ []))
    ∷ packs [] 0 (refused_by 16 ∷ waits (27 ∷ []) 2 ∷ []) ∷ packs (65 ∷ []) 0 (refused_by 20 ∷ []) ∷ packs (0 ∷ 0 ∷ 9 ∷ 0 ∷ []) 0 (refused_by 21 ∷ [])
    ∷ packs (one (66 ∷ [])) 0 (refused_by 16 ∷ cursor_at 1 2 ∷ waits (27 ∷ []) 2 ∷ []) ∷ [])
    -- 5: 27, 209 at a body's end; the offset is in its body, and what is behind the refusal is read
    ∷ (packs (one (27 ∷ 209 ∷ 1 ∷ []) ++ (one (27 ∷ 209 ∷ []) ++ one (66 ∷ 27 ∷ 61 ∷ 99 ∷ 32 ∷ 67 ∷ []))) 3
    (counts 11 2 1 0 ∷ first_refusal 11 1 ∷ parameter 1 ∷ selected 1 ∷ cell 1 1 1 66 ∷ cell 1 1 2 67 ∷ shows 1 2 67 ∷ []) ∷ [])
    -- 6: an empty pack paints nothing, a pack of an empty message paints
    ∷ (plain (turn (message (27 ∷ 211 ∷ 0 ∷ [])) []) ∷ plain (turn (key_text 1 (replicate 8 75)) (blank ∷ []))
    ∷ packs [] 0 (counts 0 0 0 0 ∷ blank ∷ text 1 (replicate 8 75) ∷ []) ∷ packs (one []) 0 (counts 0 0 0 0 ∷ shows 8 1 75 ∷ shows 8 9 32 ∷ []) ∷ [])
    -- the first refusal of several, with its parameter; the record is counted over bodies with none
    ∷ (packs (one [] ++ (one (65 ∷ []) ++ (one (65 ∷ 27 ∷ 144 ∷ 24 ∷ 1 ∷ []) ++ one (27 ∷ 99 ∷ [])))) 3 (counts 8 0 2 0 ∷ first_refusal 11 1 ∷ parameter 1 ∷ []) ∷ [])
    -- the count of a stream stays, and a refused pack leaves all
    ∷ (plain (turn (piece (65 ∷ [])) (waits [] 1 ∷ [])) ∷ packs (one (66 ∷ [])) 0 (counts 1 0 0 0 ∷ shows 1 2 66 ∷ waits [] 1 ∷ [])
    ∷ packs (one (67 ∷ []) ++ (9 ∷ 0 ∷ 1 ∷ 0 ∷ [])) 0 (refused_by 20 ∷ cursor_at 1 3 ∷ cell 1 1 3 32 ∷ waits [] 1 ∷ []) ∷ [])
    ∷ []

-- the order of the numbers: 1, 19, 20, 21, 2, 3, 16. An ESC that waits is 16 where the count is 1, and 3 where it is 0: there it is longer than the count
unfoldable pub pack_numbers : Bool
pack_numbers =
    let small = terminal (opened_settings 1) (replicate 3839 32) (replicate 1280 0) (replicate 3840 0) (replicate 640 32) in
    let unsound = terminal (with_line (opened_settings 1) (replicate 12 0) 0 1000000001) (replicate 3840 32) (replicate 1280 0) (replicate 3840 0) (replicate 640 32) in
    let waiting : ℕ → Terminal = λ n. terminal (with_line (opened_settings 1) (27 ∷ replicate 11 0) 1 n) (replicate 3840 32) (replicate 1280 0) (replicate 3840 0) (replicate 640 32) in
    let number : Terminal → List ℕ → ℕ = λ t p. number_of t (request (pack p) 0) in
    eqb (number small (replicate 60001 0)) 1 && eqb (number opened (replicate 60001 0)) 19 && eqb (number opened (replicate 60000 0)) 21
    && eqb (number unsound (0 ∷ 0 ∷ 9 ∷ 0 ∷ one (replicate 4097 65))) 21 && eqb (number unsound (one (replicate 4097 65))) 2 && eqb (number unsound []) 3 && eqb (number unsound (one [])) 3
    && eqb (number (waiting 0) []) 3 && eqb (number (waiting 0) (one [])) 3 && eqb (number (waiting 1) []) 16 && eqb (number (waiting 1) (one [])) 16

-- 6: after a key call nothing is claimed of row 8, an empty pack claims no more, and a pack of an empty message all
unfoldable pub pack_claims : Bool
pack_claims =
    let key = request (key_text 1 (replicate 8 75)) 0 in
    let none = request (pack []) 0 in
    let some = request (pack (one [])) 0 in
    not (claimed opened (key ∷ none ∷ []) (λ p. true) 560) && claimed opened (key ∷ none ∷ []) (λ p. true) 559 && claimed opened (key ∷ none ∷ some ∷ []) (λ p. true) 560
