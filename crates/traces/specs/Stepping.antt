-- What the code hands on of a trace once number 21 is ruled out: nine bytes a stroke. Not a rule.
use Rattle.std.specs.Prelude.{◌≡◌, ℕ, ◌+◌, ◌*◌, ◌<◌, ◌≤◌, Bool, ◌&&◌, ◌||◌, List, map, length, get_or, take, drop, eqb}
use Rattle.model.specs.Records.{number_in, kind_in, length_in}
use Rattle.traces.specs.declared.Stroke.{Stroke}
use Rattle.traces.specs.Strokes.{strokes_in}

-- nine bytes are a stroke, by their head
unfoldable pub stroke_bytes? : List ℕ → Bool
stroke_bytes? bs = (eqb (kind_in bs) 1 || eqb (kind_in bs) 2) && eqb (length_in bs) 5

-- the stroke that they are
unfoldable pub stroke_read : List ℕ → Stroke
stroke_read bs = record { press = eqb (kind_in bs) 1; tick = number_in (take 4 (drop 4 bs)); key = get_or bs 8 0 }

-- the strokes, nine bytes each
abbrev pub strokes_read : List (List ℕ) → List Stroke
strokes_read bytes = map stroke_read bytes

-- they are a trace's
pub record AreStrokesOf (trace : List ℕ) (bytes : List (List ℕ)) : Type 0 where
  pub is : strokes_in trace ≡ strokes_read bytes
  pub nine_each : 9 * length bytes ≤ length trace

-- four bytes hold each of n ticks, an interval apart
abbrev pub EachHeld : ℕ → ℕ → ℕ → Type 0
EachHeld tick interval n = (j : ℕ) → j < n → tick + j * interval < 4294967296
