-- Document 02, P11: "a dot store of 3,840 bytes, 60 a row, leftmost dot in the highest bit", and what 199 and 198's function do to one dot of it. Which
-- dots a line has is in Strokes.
use Rattle.std.specs.Prelude.{ℕ, ◌+◌, ◌-◌, ◌*◌, ◌/◌, ◌%◌, ◌^◌, ◌<◌, cond, List, get_or, set, eqb}
use Rattle.model.specs.declared.Point.{Point}

-- "vertical 0 to 63, horizontal 0 to 479"
pub record OnScreen (p : Point) : Type 0 where
  pub vertical : p.v < 64
  pub horizontal : p.h < 480

-- "60 a row": the byte of the dot in row v, column h
abbrev pub byte_of : ℕ → ℕ → ℕ
byte_of v h = 60 * v + h / 8

-- "leftmost dot in the highest bit": its weight in that byte
unfoldable pub weight : ℕ → ℕ
weight h = 128 / 2 ^ (h % 8)

-- the bit of weight w, 0 or 1
abbrev pub bit_of : ℕ → ℕ → ℕ
bit_of w byte = byte / w % 2

-- the dot: 0 off, 1 on
unfoldable pub dot_at : ℕ → ℕ → List ℕ → ℕ
dot_at v h dots = bit_of (weight h) (get_or dots (byte_of v h) 0)

-- a byte, with `on` for its bit of weight w
abbrev pub with_bit : ℕ → ℕ → ℕ → ℕ
with_bit on w byte = byte - bit_of w byte * w + on * w

-- "199 sets (1) or clears (0) a dot": the store, with 199's number for the dot
unfoldable pub with_dot : ℕ → ℕ → ℕ → List ℕ → List ℕ
with_dot on v h dots = set dots (byte_of v h) (with_bit on (weight h) (get_or dots (byte_of v h) 0))

-- 198's function, "1 to 3" (Appendix A): "turned off" by 1, "turned on" by 2, "the complements" by 3; any other number, which is never obeyed (11 in mode 3, idle elsewhere), as 3
abbrev pub wanted : ℕ → ℕ → ℕ
wanted function on = cond (eqb function 1) 0 (cond (eqb function 2) 1 (1 - on))

-- the store after 198's function on one dot
unfoldable pub acted : ℕ → ℕ → ℕ → List ℕ → List ℕ
acted function v h dots = with_dot (wanted function (dot_at v h dots)) v h dots

-- a number of two bytes, "document 000's": the high one first
abbrev pub two_bytes : ℕ → ℕ → ℕ
two_bytes high low = 256 * high + low
