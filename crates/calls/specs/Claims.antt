-- Document 01, "Lists of messages": the words that demand 3 is said in, of calls: items in order, what waits after a call, what the shown screen shows, and which of
-- its places are claimed. Those of states and items are in Kept of the crate `model`.
use Rattle.std.specs.Prelude.{◌≡◌, ℕ, ◌+◌, ◌-◌, ◌*◌, ◌≤◌, ◌<◌, Bool, true, false, not, cond, ◌&&◌, ◌||◌, List, [], ◌∷◌, ◌++◌, length, get_or, eqb, ltb}
use Rattle.model.specs.declared.Settings.{Settings}
use Rattle.model.specs.declared.Item.{Item}
use Rattle.model.specs.declared.Item.TheVariants.{Printed, Control, Sequence, Refused}
use Rattle.model.specs.State.{State}
use Rattle.model.specs.Screens.{place_of}
use Rattle.model.specs.Checks.{member}
use Rattle.model.specs.Picture.{picture, picture_at}
use Rattle.model.specs.Reading.{Read, remaining}
use Rattle.model.specs.Line.{held_in}
use Rattle.model.specs.Bytes.{joined, written}
use Rattle.calls.specs.Packs.{bodies_of, some?}
use Rattle.calls.specs.Repaint.{lifts?, places_in}
use Rattle.model.specs.Items.{bytes_read, obeyed_by}
use Rattle.calls.specs.Calls.{Terminal, Asked, message, piece, closing, key_text, pack, short, Request, request, granted, reads_in, served, answer_of, printed_by, Call, request_of}

-- items one behind the other: each begins where the one before ended, and has a byte
abbrev pub InOrder : ℕ → List Read → Type 0
InOrder at [] = Unit {0}
InOrder at (r ∷ rs) = (r.at ≡ at) × ((1 ≤ length r.bytes) × InOrder (at + length r.bytes) rs)

-- P6, items body by body: those of each body are its bytes, cut, one behind the other from offset 0
pub data InBodies : List (List ℕ) → List Read → Type 0 where
  no_body : InBodies [] []
  one_body : {m : List ℕ} {ms : List (List ℕ)} (rs ss : List Read) → joined (bytes_read rs) ≡ m → InOrder 0 rs → InBodies ms ss → InBodies (m ∷ ms) (rs ++ ss)

-- P1, the bytes that wait after an accepted call: of a message, a pack (P6) or a short message (P12) none, since it is refused while bytes wait; a key
-- call (P2) leaves them
unfoldable pub waits_after : Settings → Asked → List ℕ
waits_after s (message m) = []
waits_after s (piece m) = remaining (held_in s) m
waits_after s closing = []
waits_after s (key_text k x) = held_in s
waits_after s (pack p) = []
waits_after s (short m) = []

-- and the stream's byte count
unfoldable pub count_after : Settings → Asked → ℕ
count_after s (message m) = s.count
count_after s (piece m) = s.count + length m
count_after s closing = 0
count_after s (key_text k x) = s.count
count_after s (pack p) = s.count
count_after s (short m) = s.count

-- "Row r, column c is byte 80(r−1)+c−1 of the shown screen": all 640 places show the picture of what stands
pub record Shown (t : Terminal) : Type 0 where
  pub places : length t.shown ≡ 640
  pub each : (r c : ℕ) → 1 ≤ r → r ≤ 8 → 1 ≤ c → c ≤ 80 → get_or t.shown (80 * (r - 1) + (c - 1)) 0 ≡ picture_at t.state r c

-- the same of some of the 640 places, by their numbers
abbrev pub ShownIn : (ℕ → Bool) → Terminal → Type 0
ShownIn places t =
    (r c : ℕ) → 1 ≤ r → r ≤ 8 → 1 ≤ c → c ≤ 80 → places (80 * (r - 1) + (c - 1)) ≡ true → get_or t.shown (80 * (r - 1) + (c - 1)) 0 ≡ picture_at t.state r c

-- those of rows 1 to 7
abbrev pub above_row8 : ℕ → Bool
above_row8 p = ltb p 560

-- the places that are claimed after an accepted call, from those before it: all, where it paints. P2, "until the next accepted message, piece or closing
-- nothing is claimed of row 8": of a key call no more of that row. P6, an empty pack "does nothing": what was claimed.
-- P12, a short message: what was claimed, and row 8, which "it always paints whole"
unfoldable pub claims : Asked → (ℕ → Bool) → ℕ → Bool
claims (message m) places p = true
claims (piece m) places p = true
claims closing places p = true
claims (key_text k x) places p = places p && above_row8 p
claims (pack b) places p = some? (bodies_of b) || places p
claims (short m) places p = places p || not (above_row8 p)

-- and after any call: a refused one leaves what was claimed
unfoldable pub claimed_by : Terminal → Request → (ℕ → Bool) → ℕ → Bool
claimed_by t q places p = cond (granted t q) (claims q.asked places p) (places p)

-- P2: a call after which less may be claimed
abbrev pub unclaims? : Asked → Bool
unclaims? (message m) = false
unclaims? (piece m) = false
unclaims? closing = false
unclaims? (key_text k x) = true
unclaims? (pack p) = false
unclaims? (short m) = false

-- P12, "Afterwards each place holds the new picture, or is unaltered and had the same picture before and after"
pub data PlaceAfter (given after : Terminal) (p : ℕ) : Type 0 where
  painted : get_or after.shown p 0 ≡ picture after.state p → PlaceAfter given after p
  unaltered : get_or after.shown p 0 ≡ get_or given.shown p 0 → picture after.state p ≡ picture given.state p → PlaceAfter given after p

-- "printed bytes and codes 8, 10 and 13 alone"
abbrev pub plain_item? : Item → Bool
plain_item? (Printed c) = true
plain_item? (Control c) = eqb c 8 || eqb c 10 || eqb c 13
plain_item? (Sequence q) = false
plain_item? (Refused n p) = false

-- a message of such items "that lifts nothing and moves no top", no item of it
abbrev pub Plain : List Read → State → Type 0
Plain [] st = Unit {0}
Plain (r ∷ rs) st =
    (plain_item? r.item ≡ true) × ((lifts? r.item st ≡ false) × (((k : ℕ) → (place_of (obeyed_by r st).settings k).top ≡ (place_of st.settings k).top) × Plain rs (obeyed_by r st)))

-- P12, what an accepted short message promises beside the promise of every call: it "is the old one but paints less", and what it leaves of the places
pub record Quick (c : Call) (m : List ℕ) : Type 0 where
  pub old_state : c.left.state ≡ (served c.given (request (message m) (length c.buffer))).state
  pub old_answer : c.answer ≡ answer_of c.given (request (message m) (length c.buffer))
  pub old_printer : c.printer ≡ written (printed_by c.given (request (message m) (length c.buffer))) c.buffer
  -- "each place holds the new picture, or is unaltered and had the same picture before and after"
  pub each : (p : ℕ) → p < 640 → PlaceAfter c.given c.left p
  -- "Row 8 it always paints whole"
  pub row_8 : (p : ℕ) → 560 ≤ p → p < 640 → get_or c.left.shown p 0 ≡ picture c.left.state p
  -- "A message of printed bytes and codes 8, 10 and 13 alone that lifts nothing and moves no top alters in rows 1 to 7 only places of cells it prints"
  pub alters : let rs = reads_in c.given (request_of c) in Plain rs c.given.state
      → (p : ℕ) → p < 560 → member p (places_in rs c.given.state) ≡ false → get_or c.left.shown p 0 ≡ get_or c.given.shown p 0
  -- "So from a screen true in rows 1 to 7 it ends as the old call does"
  pub as_old : ShownIn above_row8 c.given → c.left ≡ served c.given (request (message m) (length c.buffer))
