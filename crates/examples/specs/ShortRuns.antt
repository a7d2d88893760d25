-- Document 02, P12, by examples: the plan's rows by their numbers (7 is must-fail/ of the crate `calls`, 8 is measured), then rows of ours. A short message is sent to blank cells under
-- a glass whose 640 places are all 88, so that a place that is not painted is seen.
use Rattle.std.specs.Prelude.{ℕ, ◌+◌, ◌-◌, ◌*◌, Bool, true, false, not, ◌&&◌, List, [], ◌∷◌, ◌++◌, get_or, replicate, eqb}
use Rattle.model.specs.declared.Settings.{Settings}
use Rattle.model.specs.State.{home, put_at, top_at, opened_settings, with_flags, with_line, with_places}
use Rattle.calls.specs.Calls.{Terminal, terminal, Asked, message, key_text, short, Request, request, number_of, served}
use Rattle.calls.specs.Lists.{claimed}

-- what is seen on the glass: so many places are still 88; a row and a column have a byte
pub data Sight : Type 0 where
  still_stale : ℕ → Sight
  seen : ℕ → ℕ → ℕ → Sight

-- how many places have a byte
abbrev pub many : ℕ → List ℕ → ℕ
many b [] = 0
many b (x ∷ xs) = elim (eqb x b) [ true ↦ 1 + many b xs | false ↦ many b xs ]

unfoldable pub sighted : Sight → List ℕ → Bool
sighted (still_stale n) shown = eqb (many 88 shown) n
sighted (seen r c b) shown = eqb (get_or shown (80 * (r - 1) + (c - 1)) 0) b

unfoldable pub all_sighted : List Sight → List ℕ → Bool
all_sighted [] shown = true
all_sighted (x ∷ xs) shown = elim (sighted x shown) [ true ↦ all_sighted xs shown | false ↦ false ]

-- calls from some settings, blank cells, no mark and the stale glass, and what is seen then
pub record Look : Type 0 where
  pub given : Settings
  pub asked : List Asked
  pub sights : List Sight

-- what calls leave, one after the other
unfoldable pub after_all : Terminal → List Asked → Terminal
after_all t [] = t
after_all t (a ∷ xs) = after_all (served t (request a 656)) xs

abbrev stale : Settings → Terminal
stale s = terminal s (replicate 3840 32) (replicate 1280 0) (replicate 3840 0) (replicate 640 88)

unfoldable pub all_looks : List Look → Bool
all_looks [] = true
all_looks (x ∷ xs) = elim (all_sighted x.sights (after_all (stale x.given) x.asked).shown) [ true ↦ all_looks xs | false ↦ false ]

-- from the opening; with the cursor of screen 1 elsewhere, under a top and a rule; one short message
abbrev opened : List Asked → List Sight → Look
opened xs ss = record { given = opened_settings 1; asked = xs; sights = ss }

abbrev at : ℕ → ℕ → ℕ → ℕ → List ℕ → List Sight → Look
at rule l c t m ss = record { given = with_places (opened_settings rule) (top_at t (put_at l c home) ∷ home ∷ []); asked = short m ∷ []; sights = ss }

abbrev flagged : ℕ → ℕ → List ℕ → List Sight → Look
flagged tracking secret m ss = record { given = with_flags (opened_settings 1) 0 tracking 1 secret 1; asked = short m ∷ []; sights = ss }

abbrev looked : List ℕ → List Sight → Look
looked m ss = opened (short m ∷ []) ss

-- all was painted; or row 8 and not these
abbrev anew : List Sight
anew = seen 1 2 32 ∷ seen 6 80 32 ∷ []

abbrev still : List Sight
still = seen 1 2 88 ∷ seen 3 40 88 ∷ seen 6 80 88 ∷ seen 8 2 32 ∷ []

-- 4: the cursor in line 9, the top 10, and a mark
abbrev above : Asked
above = message (27 ∷ 149 ∷ 1 ∷ 27 ∷ 61 ∷ 40 ∷ 32 ∷ 27 ∷ 148 ∷ 8 ∷ 27 ∷ 151 ∷ 27 ∷ 148 ∷ 1 ∷ 27 ∷ 151 ∷ 27 ∷ 149 ∷ 0 ∷ 27 ∷ 210 ∷ 1 ∷ 1 ∷ 90 ∷ [])

unfoldable pub short_looks : List Look
short_looks =
    -- 1: one byte is one place, and row 8
    looked (65 ∷ []) (still_stale 559 ∷ seen 1 1 65 ∷ seen 8 1 32 ∷ seen 8 80 32 ∷ [])
    -- 2: a place printed twice
    ∷ looked (65 ∷ 8 ∷ 66 ∷ []) (still_stale 559 ∷ seen 1 1 66 ∷ [])
    ∷ looked (65 ∷ 13 ∷ 66 ∷ []) (seen 1 1 66 ∷ still)
    -- codes 8 and 13 lift nothing, on the last line neither
    ∷ at 1 24 5 17 (13 ∷ 65 ∷ 8 ∷ 66 ∷ []) (seen 8 1 66 ∷ still)
    -- 3: seven lines down stay in the window; the eighth moves its top
    ∷ looked (replicate 7 10) (still_stale 560 ∷ [])
    ∷ looked (replicate 8 10) anew
    -- 4: a top that moves and moves back empties the layer: "moves no top" is of each item
    ∷ opened (above ∷ []) (seen 1 1 90 ∷ [])
    ∷ opened (above ∷ short (13 ∷ replicate 8 10) ∷ []) (seen 1 1 32 ∷ [])
    -- 5: row 8 after a key call
    ∷ opened (message (27 ∷ 211 ∷ 0 ∷ []) ∷ key_text 1 (replicate 8 75) ∷ short [] ∷ []) (seen 8 1 75 ∷ seen 8 9 32 ∷ [])
    -- 6: two short messages leave a stale glass stale, a message does not
    ∷ opened (short (65 ∷ []) ∷ short (66 ∷ []) ∷ []) (seen 1 1 65 ∷ seen 1 2 66 ∷ seen 1 3 88 ∷ seen 7 80 88 ∷ seen 8 1 32 ∷ [])
    ∷ opened (short (65 ∷ []) ∷ short (66 ∷ []) ∷ message [] ∷ []) (seen 1 1 65 ∷ seen 1 2 66 ∷ seen 1 3 32 ∷ seen 7 80 32 ∷ [])
    -- a lift from the last line, and from its last column; under rule 2 by the late step, and the place after that step
    ∷ at 1 24 1 17 (10 ∷ []) anew
    ∷ at 1 24 80 17 (65 ∷ []) anew
    ∷ at 1 24 79 17 (65 ∷ []) (seen 8 79 65 ∷ still)
    ∷ at 1 23 80 17 (65 ∷ []) (seen 7 80 65 ∷ still)
    ∷ at 2 24 80 17 (65 ∷ []) (seen 8 80 65 ∷ still)
    ∷ at 2 24 80 17 (65 ∷ 66 ∷ []) anew
    ∷ at 2 1 80 1 (65 ∷ 66 ∷ []) (seen 1 80 65 ∷ seen 2 1 66 ∷ seen 2 2 88 ∷ still)
    -- a cell that is shown nowhere; secret
    ∷ flagged 0 0 (replicate 8 10 ++ (65 ∷ [])) still
    ∷ flagged 1 1 (65 ∷ []) (seen 1 1 32 ∷ seen 1 2 88 ∷ still)
    -- 42 and code 12; what is not in the picture, a refusal and code 7; 61 with and without the window; 37
    ∷ looked (27 ∷ 42 ∷ []) anew
    ∷ looked (12 ∷ []) anew
    ∷ looked (27 ∷ 50 ∷ 27 ∷ 99 ∷ 7 ∷ 27 ∷ 80 ∷ []) (seen 1 1 88 ∷ still)
    ∷ looked (27 ∷ 61 ∷ 39 ∷ 111 ∷ []) (seen 1 1 88 ∷ still)
    ∷ looked (27 ∷ 61 ∷ 40 ∷ 32 ∷ []) anew
    ∷ looked (27 ∷ 37 ∷ 7 ∷ []) (seen 1 1 7 ∷ seen 1 2 88 ∷ still)
    ∷ []

-- its numbers are the message's; what is claimed after it is what was claimed, and row 8
unfoldable pub short_claims : Bool
short_claims =
    let number : Terminal → List ℕ → ℕ = λ t m. number_of t (request (short m) 0) in
    let small = terminal (opened_settings 1) (replicate 3839 32) (replicate 1280 0) (replicate 3840 0) (replicate 640 32) in
    let unsound = stale (with_line (opened_settings 1) (replicate 12 0) 0 1000000001) in
    let waiting = stale (with_line (opened_settings 1) (27 ∷ replicate 11 0) 1 1) in
    let some : Request = request (short (65 ∷ [])) 0 in
    let none : ℕ → Bool = λ p. false in
    eqb (number small (replicate 4097 65)) 1 && eqb (number unsound (replicate 4097 65)) 2 && eqb (number unsound []) 3 && eqb (number waiting []) 16 && eqb (number (stale (opened_settings 1)) []) 0
    && claimed (stale (opened_settings 1)) (some ∷ []) none 560 && not (claimed (stale (opened_settings 1)) (some ∷ []) none 559) && not (claimed waiting (some ∷ []) none 560)
