-- Document 01, "Stores and calls", "Numbers returned" (0 to 3) and "Promises at the bay": the message call, and the piece and the closing
-- call of document 02, P1, the key call of P2, the pack call of P6 and the short call of P12; what each gives by the rules, and what it promises, on every
-- input, refused ones too. The opening and the printer call are in Opening.
use Rattle.std.specs.Prelude.{◌≡◌, ℕ, ◌+◌, ◌-◌, Bool, true, false, cond, ◌&&◌, List, [], ◌∷◌, ◌++◌, length, take, leb, eqb}
use Rattle.model.specs.declared.Settings.{Settings}
use Rattle.model.specs.declared.Answer.{Answer}
use Rattle.model.specs.declared.PackOutcome.{PackOutcome}
use Rattle.model.specs.declared.Outcome.{Outcome}
use Rattle.model.specs.Bytes.{joined, written}
use Rattle.model.specs.State.{State, state}
use Rattle.model.specs.Sound.{sound?}
use Rattle.model.specs.Picture.{painting}
use Rattle.model.specs.Reading.{Read, gathered, remaining, lastly, uncut}
use Rattle.model.specs.Line.{limit, held_in}
use Rattle.model.specs.Records.{Record, records_of, uncut?, all?}
use Rattle.calls.specs.Packs.{bodies_of, known?, some?, reads_each, record_from}
use Rattle.calls.specs.Repaint.{shown_behind}
use Rattle.model.specs.Items.{reads_of, Event, line_left, key_set, events_of, apply_all, copies, blank_answer, counted_all}
use Rattle.model.specs.Keyable.{keyable}

-- what a call hands on to the next: what stands, and the shown screen
pub record Terminal : Type 0 where
  pub state : State
  pub shown : List ℕ

-- a terminal from its parts
abbrev pub terminal : Settings → List ℕ → List ℕ → List ℕ → List ℕ → Terminal
terminal s cells layer dots shown = record { state = state s cells layer dots; shown = shown }

-- what is asked: a message; P1: "a call for a piece (up to 4,096 bytes) and one to close"; P2: "set by a new
-- call", a key's number and its text; P6: "One call on a pack"; P12: "a call that is the old one but
-- paints less"
pub data Asked : Type 0 where
  message : List ℕ → Asked
  piece : List ℕ → Asked
  closing : Asked
  key_text : ℕ → List ℕ → Asked
  pack : List ℕ → Asked
  short : List ℕ → Asked

-- the bytes that are sent to be read; P2: a key call "sets the texts and reads nothing"; P6: of a pack its bodies
abbrev pub sent_by : Asked → List ℕ
sent_by (message m) = m
sent_by (piece m) = m
sent_by closing = []
sent_by (key_text k x) = []
sent_by (pack p) = joined (bodies_of p)
sent_by (short m) = m

-- P6: a pack is asked
abbrev pub packed? : Asked → Bool
packed? (message m) = false
packed? (piece m) = false
packed? closing = false
packed? (key_text k x) = false
packed? (pack p) = true
packed? (short m) = false

-- P6: the messages that it packs; no other call packs any
abbrev pub packed_by : Asked → List (List ℕ)
packed_by (message m) = []
packed_by (piece m) = []
packed_by closing = []
packed_by (key_text k x) = []
packed_by (pack p) = bodies_of p
packed_by (short m) = []

-- P12: a short message is asked
abbrev pub short? : Asked → Bool
short? (message m) = false
short? (piece m) = false
short? closing = false
short? (key_text k x) = false
short? (pack p) = false
short? (short m) = true

-- "the messages and the printer room of each call": what a call is worked out from, beside what stands
pub record Request : Type 0 where
  pub asked : Asked
  pub room : ℕ

-- a request from its parts
abbrev pub request : Asked → ℕ → Request
request a room = record { asked = a; room = room }

-- "every byte of the message belongs to exactly one item": the bytes of each item that is asked. A piece finishes what waits, and its end
-- is no end: "27, 209 waits for its byte, and there only closing means 0"; closing reads what waits, "another unfinished sequence gives 12"; a pack
-- has no item but those of its messages
unfoldable pub item_bytes : Settings → Asked → List (List ℕ)
item_bytes s (message m) = uncut m
item_bytes s (piece m) = gathered (held_in s) m
item_bytes s closing = lastly (held_in s)
item_bytes s (key_text k x) = []
item_bytes s (pack p) = []
item_bytes s (short m) = uncut m

-- the offset of the first item: "offsets count from the stream's start", where the bytes that wait are the last of the count
unfoldable pub start_of : Settings → Asked → ℕ
start_of s (message m) = 0
start_of s (piece m) = s.count - length (held_in s)
start_of s closing = s.count - length (held_in s)
start_of s (key_text k x) = 0
start_of s (pack p) = 0
start_of s (short m) = 0

-- what moves settings beside the items. P1: "the waiting bytes and the count moving as said here": a piece leaves the bytes that it did not
-- finish and is counted; closing "forgets the bytes and the count"; "A whole message leaves the count", and so do those of a pack. P2: a key call sets its text
unfoldable pub beside_items : Settings → Asked → List Event
beside_items s (message m) = []
beside_items s (piece m) = line_left (remaining (held_in s) m) (s.count + length m) ∷ []
beside_items s closing = line_left [] 0 ∷ []
beside_items s (key_text k x) = key_set k x ∷ []
beside_items s (pack p) = []
beside_items s (short m) = []

-- "A piece takes all its bytes, closing none"; a message all of its own, a pack those of its messages
unfoldable pub taken_by : Asked → ℕ
taken_by (message m) = length m
taken_by (piece m) = length m
taken_by closing = 0
taken_by (key_text k x) = 0
taken_by (pack p) = length (joined (bodies_of p))
taken_by (short m) = length m

-- "It always ends by painting all 640 places", "A piece paints as a message does; closing paints too"; P2: a key call paints nothing, its text is
-- "seen from the next message on"; P6: a pack paints as its messages do, the last of them all that is seen then, and "An empty pack .. does nothing";
-- P12: a short message does not paint all
abbrev pub paints? : Asked → Bool
paints? (message m) = true
paints? (piece m) = true
paints? closing = true
paints? (key_text k x) = false
paints? (pack p) = some? (bodies_of p)
paints? (short m) = false

-- 1: "a store is not of its size"; here, that all are: cells 3,840, layer 1,280, P11: dots 3,840, shown screen 640
unfoldable pub sized : Terminal → Bool
sized t = eqb (length t.state.cells) 3840 && (eqb (length t.state.layer) 1280 && (eqb (length t.state.dots) 3840 && eqb (length t.shown) 640))

-- 2: "message over 4,096 bytes", "2 for a piece too"; here, that it is not
abbrev pub sendable : List ℕ → Bool
sendable m = leb (length m) 4096

-- 3: "settings not sound"; here, that they are
unfoldable pub sound_in : Terminal → Bool
sound_in t = sound? t.state.settings

-- 15: "the piece would take the count past its limit"; here, that it does not
unfoldable pub countable : Settings → List ℕ → Bool
countable s m = leb (s.count + length m) limit

-- 16: "a whole message while bytes wait"; here, that none waits
unfoldable pub none_waits : Settings → Bool
none_waits s = eqb s.held 0

-- 19: "too long"; here, that it is not: "a pack up to 60,000 bytes"
unfoldable pub packable : List ℕ → Bool
packable p = leb (length p) 60000

-- 21: "unknown kind"; here, that every record's is known
unfoldable pub known_in : List ℕ → Bool
known_in p = all? known? (records_of p)

-- 2: here, that no message of the pack is over 4,096 bytes
unfoldable pub sendable_in : List ℕ → Bool
sendable_in p = all? (λ (r : Record). sendable r.body) (records_of p)

-- a reason to refuse a call: its number, and whether the call is free of it
pub record Reason : Type 0 where
  pub number : ℕ
  pub free : Bool

-- a reason by its number and test
abbrev pub reason : ℕ → Bool → Reason
reason n b = record { number = n; free = b }

-- the number of the first that applies, or 0
unfoldable pub first_of : List Reason → ℕ
first_of [] = 0
first_of (r ∷ rs) = elim r.free [ true ↦ first_of rs | false ↦ r.number ]

-- no reason applies
unfoldable pub all_free : List Reason → Bool
all_free [] = true
all_free (r ∷ rs) = r.free && all_free rs

-- "Calls are checked in the order 1, 2, 3"; 15 and 16 "after 3"; P2: "17, after 3", and no 1, since a key call is lent no store; P6: "The
-- whole pack is checked for each number before the next", "after 1: 19 too long, 20 cut record, 21 unknown kind, then 2 and 3, with 16 from P1 after 3"; P12: a
-- short message is refused as the message is
unfoldable pub reasons : Terminal → Asked → List Reason
reasons t (message m) = reason 1 (sized t) ∷ reason 2 (sendable m) ∷ reason 3 (sound_in t) ∷ reason 16 (none_waits t.state.settings) ∷ []
reasons t (piece m) = reason 1 (sized t) ∷ reason 2 (sendable m) ∷ reason 3 (sound_in t) ∷ reason 15 (countable t.state.settings m) ∷ []
reasons t closing = reason 1 (sized t) ∷ reason 3 (sound_in t) ∷ []
reasons t (key_text k x) = reason 3 (sound_in t) ∷ reason 17 (keyable k x) ∷ []
reasons t (pack p) = reason 1 (sized t) ∷ reason 19 (packable p) ∷ reason 20 (uncut? p) ∷ reason 21 (known_in p) ∷ reason 2 (sendable_in p) ∷ reason 3 (sound_in t) ∷ reason 16 (none_waits t.state.settings) ∷ []
reasons t (short m) = reason 1 (sized t) ∷ reason 2 (sendable m) ∷ reason 3 (sound_in t) ∷ reason 16 (none_waits t.state.settings) ∷ []

-- those without 1 and 3, which stores of their sizes and sound settings exclude
unfoldable pub own_reasons : Settings → Asked → List Reason
own_reasons s (message m) = reason 2 (sendable m) ∷ reason 16 (none_waits s) ∷ []
own_reasons s (piece m) = reason 2 (sendable m) ∷ reason 15 (countable s m) ∷ []
own_reasons s closing = []
own_reasons s (key_text k x) = reason 17 (keyable k x) ∷ []
own_reasons s (pack p) = reason 19 (packable p) ∷ reason 20 (uncut? p) ∷ reason 21 (known_in p) ∷ reason 2 (sendable_in p) ∷ reason 16 (none_waits s) ∷ []
own_reasons s (short m) = reason 2 (sendable m) ∷ reason 16 (none_waits s) ∷ []

-- the call's number
unfoldable pub number_of : Terminal → Request → ℕ
number_of t q = first_of (reasons t q.asked)

-- 0: "call served"; the papers speak of an accepted call, here the word accepted is left to sequences
unfoldable pub granted : Terminal → Request → Bool
granted t q = all_free (reasons t q.asked)

-- the items that an accepted call reads: one behind the other; of a pack those of its messages, each from its own start
unfoldable pub reads_by : Terminal → Request → List Read
reads_by t q =
    cond (packed? q.asked) (reads_each (packed_by q.asked) t.state q.room)
    (reads_of (item_bytes t.state.settings q.asked) (start_of t.state.settings q.asked) t.state q.room)

-- the items that a call reads: "a refused call changes nothing"
unfoldable pub reads_in : Terminal → Request → List Read
reads_in t q = cond (granted t q) (reads_by t q) []

-- what happens in an accepted call: its items, then what it leaves of the line, or sets
unfoldable pub events_by : Terminal → Request → List Event
events_by t q = events_of (reads_by t q) ++ beside_items t.state.settings q.asked

-- what happens in a call
unfoldable pub events_in : Terminal → Request → List Event
events_in t q = cond (granted t q) (events_by t q) []

-- an accepted call that paints, paints all 640 places; an accepted short message those that it must (P12); a key call and an empty pack none; a refused call
-- leaves "every store unaltered"
unfoldable pub shown_after : Terminal → Request → State → List ℕ
shown_after t q st =
    cond (granted t q && paints? q.asked) (painting st)
    (cond (granted t q && short? q.asked) (shown_behind (reads_by t q) t.state st t.shown) t.shown)

-- what a call leaves
unfoldable pub served : Terminal → Request → Terminal
served t q = let st = apply_all (events_in t q) t.state in record { state = st; shown = shown_after t q st }

-- the bytes that it takes: none where it is refused
unfoldable pub taken_in : Terminal → Request → ℕ
taken_in t q = cond (granted t q) (taken_by q.asked) 0

-- its answer
unfoldable pub answer_of : Terminal → Request → Answer
answer_of t q = counted_all (reads_in t q) (blank_answer (number_of t q) (taken_in t q))

-- P6: the record of its first refusal, counted from 1; 0 where no message of a pack has one, where it is refused, and of any other call
unfoldable pub record_of : Terminal → Request → ℕ
record_of t q = cond (packed? q.asked && granted t q) (record_from 1 (packed_by q.asked) t.state q.room) 0

-- its printer bytes
unfoldable pub printed_by : Terminal → Request → List ℕ
printed_by t q = copies (events_in t q) t.state

-- a call that was made: what was asked, what it was given and left, its answer and record, its printer buffer before and after
pub record Call : Type 0 where
  pub asked : Asked
  pub given : Terminal
  pub left : Terminal
  pub answer : Answer
  pub in_record : ℕ
  pub buffer : List ℕ
  pub printer : List ℕ

-- what it is worked out from: its printer room is the length of its buffer
abbrev pub request_of : Call → Request
request_of c = request c.asked (length c.buffer)

-- the bytes that a call printed: the first part of its buffer
abbrev pub part_of : Call → List ℕ
part_of c = take c.answer.printed c.printer

-- what each call promises: "its answer, the settings and each lent byte afterwards"
pub record Promised (c : Call) : Type 0 where
  pub answer_is : c.answer ≡ answer_of c.given (request_of c)
  pub record_is : c.in_record ≡ record_of c.given (request_of c)
  pub settings_are : c.left.state.settings ≡ (served c.given (request_of c)).state.settings
  pub cells_are : c.left.state.cells ≡ (served c.given (request_of c)).state.cells
  pub layer_is : c.left.state.layer ≡ (served c.given (request_of c)).state.layer
  pub dots_are : c.left.state.dots ≡ (served c.given (request_of c)).state.dots
  pub shown_is : c.left.shown ≡ (served c.given (request_of c)).shown
  pub printer_is : c.printer ≡ written (printed_by c.given (request_of c)) c.buffer

-- the call that the function `message` is: the message, what it was given (terminal, printer buffer), what it returns and leaves
abbrev pub called : List ℕ → Terminal → List ℕ → Answer → Terminal → List ℕ → Call
called m given buffer answer left printer = record { asked = message m; given = given; left = left; answer = answer; in_record = 0; buffer = buffer; printer = printer }

-- and the function `piece`
abbrev pub pieced : List ℕ → Terminal → List ℕ → Answer → Terminal → List ℕ → Call
pieced m given buffer answer left printer = record { asked = piece m; given = given; left = left; answer = answer; in_record = 0; buffer = buffer; printer = printer }

-- what it promises: the settings, the piece, the stores and the printer buffer that it is given; what it returns; the stores and the buffer afterwards
abbrev pub PiecePromised : Settings → (m cells layer dots shown buffer : List ℕ) → Outcome → (cells' layer' dots' shown' printer : List ℕ) → Type 0
PiecePromised s m cells layer dots shown buffer r cells' layer' dots' shown' printer = Promised (pieced m (terminal s cells layer dots shown) buffer r.answer (terminal r.settings cells' layer' dots' shown') printer)

-- and the function `closing`, which is lent no printer buffer: what waits is never an ESC P
abbrev pub closed : Terminal → Answer → Terminal → Call
closed given answer left = record { asked = closing; given = given; left = left; answer = answer; in_record = 0; buffer = []; printer = [] }

-- and the function `key`, which is lent no store and no printer buffer: whatever stands there, it stays
abbrev pub keyed : ℕ → List ℕ → Settings → Answer → Settings → (cells layer dots shown : List ℕ) → Call
keyed k x given answer left cells layer dots shown = record { asked = key_text k x; given = terminal given cells layer dots shown; left = terminal left cells layer dots shown; answer = answer; in_record = 0; buffer = []; printer = [] }

-- so it promises the same of all stores, of any size
abbrev pub KeyPromised : ℕ → List ℕ → Settings → Answer → Settings → Type 0
KeyPromised k x given answer left = (cells layer dots shown : List ℕ) → Promised (keyed k x given answer left cells layer dots shown)

-- and the function `pack`, which returns a record's number beside its answer
abbrev pub pack_called : List ℕ → Terminal → List ℕ → Answer → ℕ → Terminal → List ℕ → Call
pack_called p given buffer answer n left printer = record { asked = pack p; given = given; left = left; answer = answer; in_record = n; buffer = buffer; printer = printer }

-- what it promises: the settings, the pack, the stores and the printer buffer that it is given; what it returns; the stores and the buffer afterwards
abbrev pub PackPromised : Settings → (p cells layer dots shown buffer : List ℕ) → PackOutcome → (cells' layer' dots' shown' printer : List ℕ) → Type 0
PackPromised s p cells layer dots shown buffer r cells' layer' dots' shown' printer = Promised (pack_called p (terminal s cells layer dots shown) buffer r.answer r.record (terminal r.settings cells' layer' dots' shown') printer)

-- and the function `short`
abbrev pub short_called : List ℕ → Terminal → List ℕ → Answer → Terminal → List ℕ → Call
short_called m given buffer answer left printer = record { asked = short m; given = given; left = left; answer = answer; in_record = 0; buffer = buffer; printer = printer }
