-- Document 01, "Lists of messages": "An accepted message is read into items; each in turn changes what stands as its rule
-- says"; and of "Stores and calls" the counts of the answer, which the items fix. Document 02: what moves a stream's line (P1), what
-- sets a key's text (P2).
use Rattle.std.specs.Prelude.{ℕ, ◌+◌, ◌-◌, ◌*◌, cond, List, [], ◌∷◌, ◌++◌, map, length, eqb}
use Rattle.model.specs.declared.Answer.{Answer}
use Rattle.model.specs.declared.Item.{Item}
use Rattle.model.specs.declared.Item.TheVariants.{Printed, Control, Sequence, Refused}
use Rattle.model.specs.Bytes.{put}
use Rattle.model.specs.State.{State, with_line, with_texts}
use Rattle.model.specs.Line.{padded}
use Rattle.model.specs.Picture.{copied, copy_size_of}
use Rattle.model.specs.Sequences.{code_of}
use Rattle.model.specs.Reading.{Read, byte_of, item_of}
use Rattle.model.specs.declared.Limits.{Limits}
use Rattle.model.specs.Judging.{limits_of, judged}
use Rattle.model.specs.Rules.{apply_item, with_settings}

-- printer bytes that an item takes in a mode: 8 rows of 80, each followed by 13, 10; P11: in mode 3 the dots
abbrev pub printer_bytes : ℕ → Item → ℕ
printer_bytes mode (Printed c) = 0
printer_bytes mode (Control c) = 0
printer_bytes mode (Sequence q) = cond (eqb (code_of q) 80) (copy_size_of mode) 0
printer_bytes mode (Refused n p) = 0

-- the item of some bytes at an offset, judged
abbrev pub read : ℕ → List ℕ → Limits → ℕ → Read
read at bs s room = let i = judged (item_of at bs) s room in record { at = at; item = i; bytes = bs; prints = printer_bytes s.mode i }

-- what it does, with its own bytes
abbrev pub obeyed_by : Read → State → State
obeyed_by r st = apply_item (byte_of r) r.item st

-- the items of these bytes, the first at an offset, each read with what those before it left
unfoldable pub reads_of : List (List ℕ) → ℕ → State → ℕ → List Read
reads_of [] at st room = []
reads_of (bs ∷ bss) at st room =
    let r = read at bs (limits_of st.settings) room in
    r ∷ reads_of bss (at + length bs) (obeyed_by r st) (room - r.prints)

-- the bytes of each item that was read
abbrev pub bytes_read : List Read → List (List ℕ)
bytes_read rs = map (λ (r : Read). r.bytes) rs

-- what happens to what stands: an item that is read; or bytes that wait and a count are left (P1), or a key's text is set (P2), so that
-- settings move only by events
pub data Event : Type 0 where
  item_read : Read → Event
  line_left : List ℕ → ℕ → Event
  key_set : ℕ → List ℕ → Event

-- the events of what is read
abbrev pub events_of : List Read → List Event
events_of [] = []
events_of (r ∷ rs) = item_read r ∷ events_of rs

-- P1: other waiting bytes and another count, and nothing else
unfoldable pub lined : List ℕ → ℕ → State → State
lined w n st = with_settings (with_line st.settings (padded w) (length w) n) st

-- P2: another text of key k, 1 to 10, and nothing else
unfoldable pub texted : ℕ → List ℕ → State → State
texted k x st = with_settings (with_texts st.settings (put ((k - 1) * 8) x st.settings.texts)) st

-- what an event does
unfoldable pub happened : Event → State → State
happened (item_read r) st = obeyed_by r st
happened (line_left w n) st = lined w n st
happened (key_set k x) st = texted k x st

-- "each in turn"
unfoldable pub apply_all : List Event → State → State
apply_all [] st = st
apply_all (e ∷ es) st = apply_all es (happened e st)

-- 80: "appends the picture at that moment"
abbrev pub copy_of : Item → State → List ℕ
copy_of (Printed c) st = []
copy_of (Control c) st = []
copy_of (Sequence q) st = cond (eqb (code_of q) 80) (copied st) []
copy_of (Refused n p) st = []

-- the bytes that an event prints
abbrev pub prints_of : Event → State → List ℕ
prints_of (item_read r) st = copy_of r.item st
prints_of (line_left w n) st = []
prints_of (key_set k x) st = []

-- the bytes that events print, one behind the other
unfoldable pub copies : List Event → State → List ℕ
copies [] st = []
copies (e ∷ es) st = prints_of e st ++ copies es (happened e st)

-- the answer before any item: "zero counts, its number", and the bytes taken, which the request fixes
abbrev pub blank_answer : ℕ → ℕ → Answer
blank_answer n t = record { number = n; taken = t; accepted = 0; refused = 0; first = 0; parameter = 0; offset = 0; printed = 0 }

-- one item more, at an offset, with its printer bytes
abbrev pub counted : Item → ℕ → ℕ → Answer → Answer
counted (Printed c) at n a = a
counted (Control c) at n a = a
counted (Sequence q) at n a = record { number = a.number; taken = a.taken; accepted = a.accepted + 1; refused = a.refused; first = a.first; parameter = a.parameter; offset = a.offset; printed = a.printed + n }
counted (Refused k p) at n a = record { number = a.number; taken = a.taken; accepted = a.accepted; refused = a.refused + 1; first = cond (eqb a.refused 0) k a.first; parameter = cond (eqb a.refused 0) p a.parameter; offset = cond (eqb a.refused 0) at a.offset; printed = a.printed }

-- "number, bytes taken, sequences accepted, sequences refused, number and offset of the first refusal (0 and 0 if none), printer bytes";
-- document 02, P10: "every answer that carries a first refusal passes it on", the parameter that it names
unfoldable pub counted_all : List Read → Answer → Answer
counted_all [] a = a
counted_all (r ∷ rs) a = counted_all rs (counted r.item r.at r.prints a)
