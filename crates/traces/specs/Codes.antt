-- Document 02, P13, the codes sent: "A press sends its key at its tick, then, with repeat on, at 4 times the 241 number later and every 242
-- number after, while the tick is strictly below that of the record that ends it". How many repeats that are is said by a division; that these
-- are exactly the repeats below the end is a law (Claims).
use Rattle.std.specs.Prelude.{◌≡◌, ℕ, zero, suc, ◌+◌, ◌*◌, ◌-◌, ◌/◌, ◌%◌, ◌<◌, Bool, cond, ◌||◌, List, [], ◌∷◌, ◌++◌, eqb, ltb}
use Rattle.model.specs.declared.Keys.{Keys}
use Rattle.model.specs.Records.{number_in}
use Rattle.traces.specs.declared.Stroke.{Stroke}

-- a code sent: its tick and its key
pub record Code : Type 0 where
  pub tick : ℕ
  pub key : ℕ

-- a code by its tick and key
abbrev pub code : ℕ → ℕ → Code
code t k = record { tick = t; key = k }

-- "its release, any next press"; "Other releases do nothing": whether a record ends the press of a key
unfoldable pub ends? : ℕ → Stroke → Bool
ends? key s = s.press || eqb s.key key

-- the tick of the record that ends the press of a key, found among the records behind it; where none of them does, "the trace's last record",
-- whose tick is the last that was passed (the press's own at first)
unfoldable pub end_of : ℕ → ℕ → List Stroke → ℕ
end_of key last [] = last
end_of key last (s ∷ ss) = cond (ends? key s) s.tick (end_of key s.tick ss)

-- "at 4 times the 241 number later": the tick of the first repeat
unfoldable pub first_repeat : Keys → ℕ → ℕ
first_repeat k tick = tick + 4 * k.delay

-- how many of the ticks first, first + interval, first + 2 * interval .. are "strictly below" an end
unfoldable pub count_below : ℕ → ℕ → ℕ → ℕ
count_below first interval end = cond (ltb first end) ((end - first - 1) / interval + 1) 0

-- "with repeat on .. every 242 number after": how many repeats a press at a tick has, before the tick of the record that ends it
unfoldable pub repeat_count : Keys → ℕ → ℕ → ℕ
repeat_count k tick end = cond (eqb k.repeat 1) (count_below (first_repeat k tick) k.interval end) 0

-- n codes of a key, from a tick on, an interval apart
unfoldable pub every_from : ℕ → ℕ → ℕ → ℕ → List Code
every_from key interval tick zero = []
every_from key interval tick (suc n) = code tick key ∷ every_from key interval (tick + interval) n

-- what a press sends, by the tick of the record that ends it: "its key at its tick", then the repeats
unfoldable pub sent_by : Keys → Stroke → ℕ → List Code
sent_by k s end = code s.tick s.key ∷ every_from s.key k.interval (first_repeat k s.tick) (repeat_count k s.tick end)

-- what a record sends, with the records behind it: only presses send
unfoldable pub sent_at : Keys → Stroke → List Stroke → List Code
sent_at k s ss = cond s.press (sent_by k s (end_of s.key s.tick ss)) []

-- "list the codes sent, in order"
unfoldable pub sent : Keys → List Stroke → List Code
sent k [] = []
sent k (s ∷ ss) = sent_at k s ss ++ sent k ss

-- "a four-byte little-endian tick": the fourth is all that is left, so that nothing of a tick is cut off; of every tick sent it is a byte (Held)
unfoldable pub tick_bytes : ℕ → List ℕ
tick_bytes t = t % 256 ∷ t / 256 % 256 ∷ t / 256 / 256 % 256 ∷ t / 256 / 256 / 256 ∷ []

-- four bytes hold the tick of each code: there is no fifth, and read as in a body they are the tick
abbrev pub Held : List Code → Type 0
Held [] = Unit {0}
Held (c ∷ cs) = ((c.tick < 4294967296) × (number_in (tick_bytes c.tick) ≡ c.tick)) × Held cs

-- "tick and key as in a body, five bytes each"
unfoldable pub code_bytes : Code → List ℕ
code_bytes c = tick_bytes c.tick ++ (c.key ∷ [])

-- the output of some codes
unfoldable pub codes_bytes : List Code → List ℕ
codes_bytes [] = []
codes_bytes (c ∷ cs) = code_bytes c ++ codes_bytes cs
