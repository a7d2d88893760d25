-- Document 02, P8: "take two runs of the same calls, each one of demand 3's lists, with stores and printer room of the same sizes, secret on, equal at the
-- start but for the bytes of cells, layer and key texts, whose messages, pieces and packs are equal but for the values of bytes read as printed in both, and
-- key calls but for a text's codes. If no ESC 125 is read as a sequence and no opening is called, the shown screen, the printer bytes and the answers are
-- equal after every call."
use Rattle.std.specs.Prelude.{◌≡◌, ℕ, ◌+◌, ◌-◌, Bool, false, cond, ◌&&◌, ◌||◌, List, [], ◌∷◌, length, get_or, leb, ltb, eqb}
use Rattle.model.specs.declared.Item.{Item}
use Rattle.model.specs.declared.Item.TheVariants.{Printed, Control, Sequence, Refused}
use Rattle.model.specs.State.{State}
use Rattle.model.specs.Sequences.{code_of}
use Rattle.model.specs.Reading.{Read}
use Rattle.calls.specs.Packs.{bodies_of, items_in}
use Rattle.model.specs.Items.{Event, item_read, line_left, key_set, events_of, apply_all, blank_answer, counted_all}
use Rattle.model.specs.Hidden.{shared, reveals}
use Rattle.calls.specs.Calls.{Terminal, Asked, message, piece, closing, key_text, pack, short, request, granted, reads_in, Call, part_of}
use Rattle.calls.specs.Lists.{Made, Nth, requests, events_over}

-- "bytes read as printed": of an item that begins at an offset, whether byte o is its printed character's value. Document 01: "A printed character is a
-- printed byte or an accepted 37": its own byte, or 37's parameter
abbrev pub character_at : Item → ℕ → ℕ → Bool
character_at (Printed c) at o = eqb o at
character_at (Control c) at o = false
character_at (Sequence q) at o = eqb (code_of q) 37 && eqb o (at + 2)
character_at (Refused n p) at o = false

-- byte o is read as printed by one of these items
unfoldable pub printed_at : List Read → ℕ → Bool
printed_at [] o = false
printed_at (r ∷ rs) o = character_at r.item r.at o || printed_at rs o

-- byte i of a pack is, where these are the bodies from its start on: each stands behind the four bytes of its record's head, and offsets are "in that body" (P6)
unfoldable pub printed_in_pack : List (List ℕ) → State → ℕ → ℕ → Bool
printed_in_pack [] st room i = false
printed_in_pack (m ∷ ms) st room i =
    let rs = items_in m st room in
    cond (ltb i (4 + length m)) (leb 4 i && printed_at rs (i - 4))
    (printed_in_pack ms (apply_all (events_of rs) st) (room - (counted_all rs (blank_answer 0 (length m))).printed) (i - (4 + length m)))

-- byte i, from 0, of what a call is handed is read as printed. A message's offsets are its own, a piece's count from the stream's start (P1). A refused call
-- reads nothing
unfoldable pub read_as_printed : Terminal → Asked → ℕ → ℕ → Bool
read_as_printed t (message m) room i = printed_at (reads_in t (request (message m) room)) i
read_as_printed t (piece m) room i = printed_at (reads_in t (request (piece m) room)) (t.state.settings.count + i)
read_as_printed t closing room i = false
read_as_printed t (key_text k x) room i = false
read_as_printed t (pack p) room i = cond (granted t (request (pack p) room)) (printed_in_pack (bodies_of p) t.state room i) false
read_as_printed t (short m) room i = printed_at (reads_in t (request (short m) room)) i

-- "in both"
unfoldable pub in_both : Call → Call → ℕ → Bool
in_both c₁ c₂ i = read_as_printed c₁.given c₁.asked (length c₁.buffer) i && read_as_printed c₂.given c₂.asked (length c₂.buffer) i

-- "messages, pieces and packs", a short message (P12) too: the bytes that a call is handed
abbrev pub handed : Asked → List ℕ
handed (message m) = m
handed (piece m) = m
handed closing = []
handed (key_text k x) = []
handed (pack p) = p
handed (short m) = m

-- "the same calls"; "key calls but for a text's codes": of the same key, with as many of them
pub data SameKind : Asked → Asked → Type 0 where
  messages : {m₁ m₂ : List ℕ} → SameKind (message m₁) (message m₂)
  pieces : {m₁ m₂ : List ℕ} → SameKind (piece m₁) (piece m₂)
  closings : SameKind closing closing
  key_texts : {k : ℕ} {x₁ x₂ : List ℕ} → length x₁ ≡ length x₂ → SameKind (key_text k x₁) (key_text k x₂)
  packs : {p₁ p₂ : List ℕ} → SameKind (pack p₁) (pack p₂)
  shorts : {m₁ m₂ : List ℕ} → SameKind (short m₁) (short m₂)

-- "printer room of the same sizes", "equal but for the values of bytes read as printed in both"
pub record Alike (c₁ c₂ : Call) : Type 0 where
  pub kind : SameKind c₁.asked c₂.asked
  pub room : length c₁.buffer ≡ length c₂.buffer
  pub long : length (handed c₁.asked) ≡ length (handed c₂.asked)
  pub bytes : (i : ℕ) → in_both c₁ c₂ i ≡ false → get_or (handed c₁.asked) i 0 ≡ get_or (handed c₂.asked) i 0

-- call by call
pub data AlikeCalls : List Call → List Call → Type 0 where
  end : AlikeCalls [] []
  pair : {c₁ c₂ : Call} {cs₁ cs₂ : List Call} → Alike c₁ c₂ → AlikeCalls cs₁ cs₂ → AlikeCalls (c₁ ∷ cs₁) (c₂ ∷ cs₂)

-- "equal at the start but for the bytes of cells, layer and key texts", which are as many; P11: "P8's runs start with equal dots"; "secret on", in the second run
-- too, by its settings. The shown screen may be stale (P12: "in P8 too")
pub record AlikeStart (t₁ t₂ : Terminal) : Type 0 where
  pub settings : shared t₁.state.settings ≡ shared t₂.state.settings
  pub dots : t₁.state.dots ≡ t₂.state.dots
  pub shown : t₁.shown ≡ t₂.shown
  pub cells : length t₁.state.cells ≡ length t₂.state.cells
  pub layer : length t₁.state.layer ≡ length t₂.state.layer
  pub secret : t₁.state.settings.secret ≡ 1

-- an "ESC 125 is read as a sequence" among these events
unfoldable pub revealed : List Event → Bool
revealed [] = false
revealed (item_read r ∷ es) = reveals r.item || revealed es
revealed (line_left w n ∷ es) = revealed es
revealed (key_set k x ∷ es) = revealed es

-- "take two runs of the same calls": all that is asked of them. Demand 3's lists are those Made; that they start from sound settings (Start) is not needed, so
-- calls refused by 1 and 3 may stand in them. Of 125 nothing is asked of the second list. "No opening is called": none stands in a list
pub record TwoRuns (t₁ t₂ : Terminal) (cs₁ cs₂ : List Call) : Type 0 where
  pub made₁ : Made t₁ cs₁
  pub made₂ : Made t₂ cs₂
  pub start : AlikeStart t₁ t₂
  pub calls : AlikeCalls cs₁ cs₂
  pub hidden : revealed (events_over t₁ (requests cs₁)) ≡ false

-- "the shown screen, the printer bytes and the answers are equal": of the printer buffer its first part, as many bytes as the answer says, which the printer call
-- hands back, and the whole of it where the buffers were equal before; of a pack its record too (P6). Beside these the dots, which secret does not hide, the
-- settings but for the texts' codes, and that secret is still on
pub record SameSeen (c₁ c₂ : Call) : Type 0 where
  pub shown : c₁.left.shown ≡ c₂.left.shown
  pub printed : part_of c₁ ≡ part_of c₂
  pub buffers : c₁.buffer ≡ c₂.buffer → c₁.printer ≡ c₂.printer
  pub answer : c₁.answer ≡ c₂.answer
  pub in_record : c₁.in_record ≡ c₂.in_record
  pub dots : c₁.left.state.dots ≡ c₂.left.state.dots
  pub settings : shared c₁.left.state.settings ≡ shared c₂.left.state.settings
  pub on : c₁.left.state.settings.secret ≡ 1

-- the claim: "after every call"
abbrev pub Secrecy : Type 0
Secrecy = (t₁ t₂ : Terminal) (cs₁ cs₂ : List Call) → TwoRuns t₁ t₂ cs₁ cs₂ → (n : ℕ) (c₁ c₂ : Call) → Nth n cs₁ c₁ → Nth n cs₂ c₂ → SameSeen c₁ c₂
