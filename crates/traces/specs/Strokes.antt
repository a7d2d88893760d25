-- Document 02, P13, the trace: "From a trace up to 60,000 bytes in P6's record form, kind 1 press and kind 2 release, body a four-byte
-- little-endian tick of 1/256 second and a key byte". What its records are, and what of it is refused; what is sent is in Codes.
use Rattle.std.specs.Prelude.{ℕ, Bool, true, ◌&&◌, ◌||◌, List, [], ◌∷◌, map, length, get_or, take, eqb, leb}
use Rattle.model.specs.Records.{Record, number_in, records_of}
use Rattle.traces.specs.declared.Stroke.{Stroke}

-- "kind 1 press and kind 2 release, body a four-byte little-endian tick .. and a key byte"
unfoldable pub stroke_of : Record → Stroke
stroke_of r = record { press = eqb r.kind 1; tick = number_in (take 4 r.body); key = get_or r.body 4 0 }

-- the presses and releases of a trace
unfoldable pub strokes_in : List ℕ → List Stroke
strokes_in trace = map stroke_of (records_of trace)

-- 21: "kind or body length"; here, that both are a stroke's
unfoldable pub stroke? : Record → Bool
stroke? r = (eqb r.kind 1 || eqb r.kind 2) && eqb (length r.body) 5

-- 24: "falling tick"; here, that none is below the one before it, the first not below a given tick
unfoldable pub rising? : ℕ → List Stroke → Bool
rising? last [] = true
rising? last (s ∷ ss) = leb last s.tick && rising? s.tick ss
