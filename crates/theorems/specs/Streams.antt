-- Document 02, P1: "However it is cut, a closed stream with no other accepted call between its own gives, over its calls together, the items,
-- counts, settings, cells, layer, printer bytes and final picture of one uncut reading, where no ESC P met refusal 13 in either."
use Rattle.std.specs.Prelude.{◌≡◌, ℕ, ◌≤◌, Bool, false, ◌||◌, List, [], ◌∷◌, ◌++◌, length, eqb}
use Rattle.model.specs.declared.Answer.{Answer}
use Rattle.model.specs.declared.Item.{Item}
use Rattle.model.specs.declared.Item.TheVariants.{Printed, Control, Sequence, Refused}
use Rattle.model.specs.Line.{limit, held_in}
use Rattle.model.specs.Picture.{painting}
use Rattle.model.specs.Reading.{Read, uncut}
use Rattle.model.specs.Items.{reads_of, events_of, apply_all, copies, blank_answer, counted_all}
use Rattle.calls.specs.Calls.{Terminal, message, piece, closing, Request, Call, request_of, Promised, reads_in, served, part_of}
use Rattle.calls.specs.Lists.{Made, Start, left, requests}
use Rattle.model.specs.Answers.{together}

-- "a closed stream with no other accepted call between its own": calls of which those that are accepted are pieces and then one closing,
-- and the bytes of these pieces, one behind the other. A call of any kind that is refused may stand between
pub data Stream : List Call → List ℕ → Type 0 where
  closes : {c : Call} → c.asked ≡ closing → c.answer.number ≡ 0 → Stream (c ∷ []) []
  goes : {c : Call} {m : List ℕ} {cs : List Call} {bs : List ℕ} → c.asked ≡ piece m → c.answer.number ≡ 0 → Stream cs bs → Stream (c ∷ cs) (m ++ bs)
  skips : {c : Call} {cs : List Call} {bs : List ℕ} → (c.answer.number ≡ 0 → ⊥) → Stream cs bs → Stream (c ∷ cs) bs

-- "over its calls together, the items"
unfoldable pub reads_over : Terminal → List Request → List Read
reads_over t [] = []
reads_over t (q ∷ qs) = reads_in t q ++ reads_over (served t q) qs

-- "the counts", over its calls together
unfoldable pub summed : List Call → Answer
summed [] = blank_answer 0 0
summed (c ∷ cs) = together c.answer (summed cs)

-- "printer bytes", over its calls together
unfoldable pub parts_of : List Call → List ℕ
parts_of [] = []
parts_of (c ∷ cs) = part_of c ++ parts_of cs

-- an ESC P that met refusal 13
abbrev pub roomless : Item → Bool
roomless (Printed c) = false
roomless (Control c) = false
roomless (Sequence q) = false
roomless (Refused n p) = eqb n 13

-- one of the items did
unfoldable pub met13 : List Read → Bool
met13 [] = false
met13 (r ∷ rs) = roomless r.item || met13 rs

-- calls that give, together, what a reading u of the bytes gives from t: settings, cells, layer and dots (P11) are the state, the waiting bytes
-- (none) and the count (0) among them
pub record As (u : List Read) (bs : List ℕ) (t : Terminal) (cs : List Call) : Type 0 where
  pub items : reads_over t (requests cs) ≡ u
  pub counts : summed cs ≡ counted_all u (blank_answer 0 (length bs))
  pub state : (left t cs).state ≡ apply_all (events_of u) t.state
  pub printed : parts_of cs ≡ copies (events_of u) t.state
  pub shown : (left t cs).shown ≡ painting (apply_all (events_of u) t.state)
  pub forgets : (held_in (left t cs).state.settings ≡ []) × ((left t cs).state.settings.count ≡ 0)

-- the theorem: from a count of 0, wherever the stores and settings stand. "One uncut reading" is no call, since a stream may have 10⁹ bytes; its
-- printer room is any that no ESC P misses
abbrev pub Uncut : Type 0
Uncut = (t : Terminal) (cs : List Call) (bs : List ℕ) (room : ℕ) → Made t cs → t.state.settings.count ≡ 0 → Stream cs bs
    → let u = reads_of (uncut bs) 0 t.state room in
    met13 (reads_over t (requests cs)) ≡ false → met13 u ≡ false → As u bs t cs

-- "However it is cut": calls that ask for pieces of at most 4,096 bytes, one after the other, then for the closing
pub data Cut : List Call → List ℕ → Type 0 where
  ends : {c : Call} → c.asked ≡ closing → Cut (c ∷ []) []
  cuts : {c : Call} {m : List ℕ} {cs : List Call} {bs : List ℕ} → c.asked ≡ piece m → length m ≤ 4096 → Cut cs bs → Cut (c ∷ cs) (m ++ bs)

-- from an accepted opening or sound settings such calls, of 10⁹ bytes at most, are a stream: that they are accepted is concluded
abbrev pub HoweverCut : Type 0
HoweverCut = (t : Terminal) (cs : List Call) (bs : List ℕ) (room : ℕ) → Start t → Made t cs → t.state.settings.count ≡ 0 → Cut cs bs → length bs ≤ limit
    → let u = reads_of (uncut bs) 0 t.state room in
    (Stream cs bs) × (met13 (reads_over t (requests cs)) ≡ false → met13 u ≡ false → As u bs t cs)

-- what a stream and a call on the same bytes have in common
pub record Same (t : Terminal) (cs : List Call) (c : Call) : Type 0 where
  pub items : reads_over t (requests cs) ≡ reads_in t (request_of c)
  pub answer : summed cs ≡ c.answer
  pub left_is : left t cs ≡ c.left
  pub printed : parts_of cs ≡ part_of c

-- bytes that a message may have: the message call on them gives the same, in whatever printer room
abbrev pub AsMessage : Type 0
AsMessage = (t : Terminal) (cs : List Call) (bs : List ℕ) (c : Call) → Made t cs → t.state.settings.count ≡ 0 → Stream cs bs
    → c.given ≡ t → Promised c → c.asked ≡ message bs → length bs ≤ 4096
    → met13 (reads_over t (requests cs)) ≡ false → met13 (reads_in t (request_of c)) ≡ false → Same t cs c
