-- Document 02, P13, by examples: a trace from its bytes, under the opening's delay 32 and interval 16 where nothing else is said, and what the
-- call must give. The paper has no table of its own; these rows say what it leaves easily misread.
use Rattle.std.specs.Prelude.{ℕ, Bool, true, false, ◌&&◌, List, [], ◌∷◌, ◌++◌, length, eqb}
use Rattle.model.specs.declared.Settings.{Settings}
use Rattle.calls.specs.Calls.{first_of}
use Rattle.model.specs.State.{opened_keys, opened_settings, repeat_with, with_stored}
use Rattle.traces.specs.Codes.{Code, tick_bytes}
use Rattle.traces.specs.Call.{listed, reasons}

-- a row: settings, trace, room of the output, the number, and the ticks sent
pub record Row : Type 0 where
  pub settings : Settings
  pub trace : List ℕ
  pub room : ℕ
  pub number : ℕ
  pub ticks : List ℕ

-- the opening's settings with another key repeat: on or off, delay, interval
abbrev pub repeating : ℕ → ℕ → ℕ → Settings
repeating on delay interval = with_stored (opened_settings 1) 0 (repeat_with opened_keys on delay interval 0 opened_keys.arrows) (opened_settings 1).patterns

-- a record: kind, tick, key
abbrev pub stroke : ℕ → ℕ → ℕ → List ℕ
stroke kind tick key = 5 ∷ 0 ∷ kind ∷ 0 ∷ (tick_bytes tick ++ (key ∷ []))

-- under the opening's settings
abbrev pub row : List ℕ → ℕ → ℕ → List ℕ → Row
row trace room number ticks = record { settings = opened_settings 1; trace = trace; room = room; number = number; ticks = ticks }

-- under others
abbrev pub under : Settings → List ℕ → ℕ → ℕ → List ℕ → Row
under s trace room number ticks = record { settings = s; trace = trace; room = room; number = number; ticks = ticks }

-- the ticks of some codes are these
abbrev pub ticks_are : List ℕ → List Code → Bool
ticks_are [] [] = true
ticks_are [] (c ∷ cs) = false
ticks_are (t ∷ ts) [] = false
ticks_are (t ∷ ts) (c ∷ cs) = eqb c.tick t && ticks_are ts cs

unfoldable pub right? : Row → Bool
right? r = eqb (first_of (reasons r.settings r.trace r.room)) r.number && ticks_are r.ticks (listed r.settings r.trace r.room)

unfoldable pub all_right? : List Row → Bool
all_right? [] = true
all_right? (r ∷ rs) = elim (right? r) [ true ↦ all_right? rs | false ↦ false ]

unfoldable pub rows : List Row
rows =
    -- a press and its release: repeats at 128 and 144, and not at 160, which is not below the end; a tick later it is
    row (5 ∷ 0 ∷ 1 ∷ 0 ∷ 0 ∷ 0 ∷ 0 ∷ 0 ∷ 65 ∷ 5 ∷ 0 ∷ 2 ∷ 0 ∷ 160 ∷ 0 ∷ 0 ∷ 0 ∷ 65 ∷ []) 100 0 (0 ∷ 128 ∷ 144 ∷ [])
    ∷ row (stroke 1 0 65 ++ stroke 2 161 65) 100 0 (0 ∷ 128 ∷ 144 ∷ 160 ∷ [])
    -- the release of another key ends nothing, but as the last record it does
    ∷ row (stroke 1 0 65 ++ stroke 2 130 66 ++ stroke 2 160 65) 100 0 (0 ∷ 128 ∷ 144 ∷ [])
    ∷ row (stroke 1 0 65 ++ stroke 2 150 66) 100 0 (0 ∷ 128 ∷ 144 ∷ [])
    -- any next press ends it, of the same key too; the second is the last record, and ends itself
    ∷ row (stroke 1 0 65 ++ stroke 1 140 66) 100 0 (0 ∷ 128 ∷ 140 ∷ [])
    ∷ row (stroke 1 0 65 ++ stroke 1 128 65) 100 0 (0 ∷ 128 ∷ [])
    ∷ row (stroke 1 7 65) 5 0 (7 ∷ [])
    -- the last ticks of all: 64 bits for the first repeat
    ∷ row (stroke 1 4294967290 65 ++ stroke 2 4294967295 65) 100 0 (4294967290 ∷ [])
    -- equal ticks do not fall; a release alone sends nothing; nothing is a trace
    ∷ row (stroke 2 9 65 ++ stroke 1 9 65 ++ stroke 2 9 65) 100 0 (9 ∷ [])
    ∷ row (stroke 2 9 65) 0 0 []
    ∷ row [] 0 0 []
    -- repeat off; delay 1 and interval 127
    ∷ under (repeating 0 32 16) (stroke 1 0 65 ++ stroke 2 1000 65) 100 0 (0 ∷ [])
    ∷ under (repeating 1 1 127) (stroke 1 0 65 ++ stroke 2 132 65) 100 0 (0 ∷ 4 ∷ 131 ∷ [])
    -- unsound settings before a cut trace; a cut record anywhere, then a kind or length anywhere, then a tick that falls
    ∷ under (repeating 1 0 16) (5 ∷ []) 100 3 []
    ∷ row (stroke 3 0 65 ++ (5 ∷ 0 ∷ 1 ∷ [])) 100 20 []
    ∷ row (stroke 1 0 65 ++ (5 ∷ 0 ∷ 1 ∷ 0 ∷ 1 ∷ 0 ∷ 0 ∷ 0 ∷ [])) 100 20 []
    ∷ row (stroke 1 5 65 ++ stroke 1 4 65 ++ stroke 3 4 65) 100 21 []
    ∷ row (4 ∷ 0 ∷ 1 ∷ 0 ∷ 1 ∷ 0 ∷ 0 ∷ 0 ∷ stroke 1 0 65) 100 21 []
    ∷ row (5 ∷ 0 ∷ 1 ∷ 1 ∷ 1 ∷ 0 ∷ 0 ∷ 0 ∷ 65 ∷ []) 100 21 []
    ∷ row (stroke 1 5 65 ++ stroke 2 4 66) 0 24 []
    -- three codes are 15 bytes
    ∷ row (stroke 1 0 65 ++ stroke 2 160 65) 14 25 []
    ∷ row (stroke 1 0 65 ++ stroke 2 160 65) 15 0 (0 ∷ 128 ∷ 144 ∷ [])
    ∷ []

-- a key held for 1,000 ticks: 56 codes
unfoldable pub held : ℕ
held = length (listed (opened_settings 1) (stroke 1 0 65 ++ stroke 2 1000 66) 65535)
