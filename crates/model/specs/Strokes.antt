-- Document 02, P11, 198: where the dots of a line lie, which of them act, and the store after it.
use Rattle.std.specs.Prelude.{ℕ, zero, suc, ◌+◌, ◌-◌, ◌*◌, ◌/◌, ◌%◌, ◌^◌, min, max, Bool, cond, List, eqb, leb}
use Rattle.model.specs.declared.Point.{Point}
use Rattle.model.specs.Dot.{acted}

-- how far apart two numbers are, whichever is greater
abbrev pub distance : ℕ → ℕ → ℕ
distance a b = (a - b) + (b - a)

-- "towards the end": what lies `by` from a, on the way to b
abbrev pub towards : ℕ → ℕ → ℕ → ℕ
towards a b by = cond (leb a b) (a + by) (a - by)

-- "N the longer distance"
unfoldable pub longer : Point → Point → ℕ
longer from to = max (distance from.h to.h) (distance from.v to.v)

-- "d the shorter"
unfoldable pub shorter : Point → Point → ℕ
shorter from to = min (distance from.h to.h) (distance from.v to.v)

-- "(horizontal if equal)": whether the longer axis is the horizontal one
unfoldable pub flat : Point → Point → Bool
flat from to = leb (distance from.v to.v) (distance from.h to.h)

-- "floor((2kd+N)/(2N)) along the other"; "N=0 is one dot", of offset 0, since a quotient by 0 is 0 (row 4 of CurveRuns computes it)
unfoldable pub offset_at : ℕ → ℕ → ℕ → ℕ
offset_at N d k = (2 * k * d + N) / (2 * N)

-- what lies k along the longer axis and o along the other
unfoldable pub placed : Bool → Point → Point → ℕ → ℕ → Point
placed f from to k o =
    record {
      v = towards from.v to.v (cond f o k);
      h = towards from.h to.h (cond f k o);
    }

-- "dot k .. lies k along the longer axis and floor((2kd+N)/(2N)) along the other"
unfoldable pub line_dot : Point → Point → ℕ → Point
line_dot from to k = placed (flat from to) from to k (offset_at (longer from to) (shorter from to) k)

-- "Mask bit k mod 16, first byte's highest bit first", of 256 times the first byte and the second: 0 or 1
unfoldable pub mask_bit : ℕ → ℕ → ℕ
mask_bit mask k = mask / 2 ^ (15 - k % 16) % 2

-- ".. says whether it acts": the store after dot k, which lies at v, h
unfoldable pub stepped : ℕ → ℕ → ℕ → ℕ → ℕ → List ℕ → List ℕ
stepped function mask k v h dots = cond (eqb (mask_bit mask k) 1) (acted function v h dots) dots

-- the store after the first n dots
unfoldable pub drawn : ℕ → ℕ → Point → Point → List ℕ → ℕ → List ℕ
drawn function mask from to dots zero = dots
drawn function mask from to dots (suc k) =
    stepped function mask k (line_dot from to k).v (line_dot from to k).h (drawn function mask from to dots k)

-- "dot k from 0 to N"
unfoldable pub lined : ℕ → ℕ → Point → Point → List ℕ → List ℕ
lined function mask from to dots = drawn function mask from to dots (longer from to + 1)
