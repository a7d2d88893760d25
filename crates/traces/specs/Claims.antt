-- Document 02, P13: what a reader expects of the codes sent, claimed of every trace. That the number is the list's length, and that four bytes
-- hold every tick listed, is the call's own promise (Call).
use Rattle.std.specs.Prelude.{◌≡◌, ℕ, ◌+◌, ◌*◌, ◌<◌, ◌≤◌, true, List, [], ◌∷◌}
use Rattle.model.specs.declared.Keys.{Keys}
use Rattle.model.specs.Records.{number_in}
use Rattle.traces.specs.declared.Stroke.{Stroke}
use Rattle.traces.specs.Strokes.{rising?, strokes_in}
use Rattle.traces.specs.Codes.{Code, Held, repeat_count, sent, tick_bytes}

-- ticks never fall, the first not below a given one
abbrev pub NeverFall : ℕ → List Code → Type 0
NeverFall last [] = Unit {0}
NeverFall last (c ∷ cs) = (last ≤ c.tick) × NeverFall c.tick cs

-- each of a trace's numbers is a byte
abbrev pub Bytes : List ℕ → Type 0
Bytes [] = Unit {0}
Bytes (b ∷ bs) = (b < 256) × Bytes bs

-- the ticks of a trace, read from four bytes each
abbrev pub FourBytes : List Stroke → Type 0
FourBytes [] = Unit {0}
FourBytes (s ∷ ss) = (s.tick < 4294967296) × FourBytes ss

-- what is claimed of the codes, for keys whose interval is sound
pub record Claims (k : Keys) : Type 0 where
  -- "while the tick is strictly below that of the record that ends it": the repeats counted are those below the end, and no other
  pub counted_below : (tick end j : ℕ) → k.repeat ≡ 1 → j < repeat_count k tick end → tick + 4 * k.delay + j * k.interval < end
  pub below_counted : (tick end j : ℕ) → k.repeat ≡ 1 → tick + 4 * k.delay + j * k.interval < end → j < repeat_count k tick end
  -- "in order": where no tick of the trace falls, none of the codes does
  pub in_order : (ss : List Stroke) → rising? 0 ss ≡ true → NeverFall 0 (sent k ss)
  -- "body a four-byte little-endian tick": of every trace of bytes, refused ones too
  pub four_bytes : (trace : List ℕ) → Bytes trace → FourBytes (strokes_in trace)
  -- "tick and key as in a body": four bytes hold every tick sent; and the bytes of a tick, of any, are the tick: none is cut off
  pub held : (ss : List Stroke) → FourBytes ss → Held (sent k ss)
  pub uncut : (tick : ℕ) → number_in (tick_bytes tick) ≡ tick
