-- The record of a call in a recording: "body length and kind, two bytes each, little-endian, then the body". A kind and a body are those of one
-- call at most.
use Rattle.std.specs.Prelude.{ℕ, ◌+◌, ◌*◌, ◌/◌, ◌%◌, Bool, ◌&&◌, ◌||◌, List, [], ◌∷◌, length, get_or, eqb, leb}
use Rattle.record_input.specs.declared.Call.{Call}
use Rattle.record_input.specs.declared.Call.TheVariants.{Message, Piece, Closing, KeyText, Pack, Short, Opening, Room}

-- its kind
abbrev pub kind_of : Call → ℕ
kind_of (Message m) = 1
kind_of (Piece m) = 2
kind_of Closing = 3
kind_of (KeyText k t) = 4
kind_of (Pack p) = 5
kind_of (Short m) = 6
kind_of (Opening r) = 7
kind_of (Room n) = 8

-- its body: the bytes that are sent; a key's number and its text; a rule; a room in two bytes, the low one first
abbrev pub body_of : Call → List ℕ
body_of (Message m) = m.now
body_of (Piece m) = m.now
body_of Closing = []
body_of (KeyText k t) = k ∷ t.now
body_of (Pack p) = p.now
body_of (Short m) = m.now
body_of (Opening r) = r ∷ []
body_of (Room n) = n % 256 ∷ n / 256 ∷ []

-- how many bytes it has, with the four before its body
abbrev pub size_of : Call → ℕ
size_of c = length (body_of c) + 4

-- whether a kind and a body are those of a call: a closing's is empty, a key text has "a byte at least", an opening "one byte", a printer room "two
-- bytes, little-endian, 0 to 8,192"
unfoldable pub has_call : ℕ → List ℕ → Bool
has_call kind body =
    eqb kind 1 || (eqb kind 2 || (eqb kind 5 || (eqb kind 6
    || ((eqb kind 3 && eqb (length body) 0)
    || ((eqb kind 4 && leb 1 (length body))
    || ((eqb kind 7 && eqb (length body) 1)
    || (eqb kind 8 && (eqb (length body) 2 && leb (get_or body 0 0 + 256 * get_or body 1 0) 8192))))))))
