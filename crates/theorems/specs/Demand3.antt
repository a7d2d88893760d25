-- Document 01, "Lists of messages": demand 3, a single claim about a whole list of calls; document 02, P1: "pieces and closings stand in its
-- lists with messages, an accepted one counting as an accepted message"; P2: "The new call may stand in demand 3's lists"; P6: "In demand 3's
-- lists an accepted pack stands for its messages, a refused one for none"; P12: "it stands in demand 3's lists".
use Rattle.std.specs.Prelude.{◌≡◌, ℕ, suc, ◌≤◌, ◌<◌, Bool, true, false, cond, List, [], ◌∷◌, ◌++◌, length, take}
use Rattle.model.specs.Bytes.{joined, written}
use Rattle.model.specs.Line.{held_in}
use Rattle.model.specs.Items.{texted, blank_answer, bytes_read}
use Rattle.calls.specs.Packs.{bodies_of}
use Rattle.calls.specs.Calls.{Terminal, message, key_text, pack, short, packed?, paints?, sent_by, start_of, Call, request_of, sendable, first_of, own_reasons, number_of, answer_of, record_of, printed_by, reads_in}
use Rattle.model.specs.Kept.{Standing, InWindow, sets_mode, refused_event, must_follow, Unchanged, SameWindow}
use Rattle.calls.specs.Claims.{InOrder, InBodies, Quick, waits_after, count_after, Shown, ShownIn, above_row8}
use Rattle.calls.specs.Lists.{Made, NoKey, Nth, Opening, Start, Still, Stretch, before, claimed, event, events_over, item_count, left, requests, stands, stood, unpacked}

-- the claim about a whole list
pub record Demand3 (t : Terminal) (cs : List Call) : Type 0 where
  -- WHEREVER IT STARTS, refused calls by every number included
  -- "After each call the settings, cells and layer are exactly what then stands", the shown screen and the dots (P11) too
  pub exact : (n : ℕ) → n ≤ length cs → left t (take n cs) ≡ stood t cs n
  -- "its answer and printer bytes are those that the rules give from what stood before it"
  pub answers : (n : ℕ) (c : Call) → Nth n cs c → c.answer ≡ answer_of (stood t cs n) (request_of c)
  pub prints : (n : ℕ) (c : Call) → Nth n cs c → c.printer ≡ written (printed_by (stood t cs n) (request_of c)) c.buffer
  -- which are as many as the answer says, and fit: the buffer keeps its length
  pub printed : (n : ℕ) (c : Call) → Nth n cs c → (length (printed_by (stood t cs n) (request_of c)) ≡ c.answer.printed) × (length c.printer ≡ length c.buffer)
  -- "Which calls are refused is settled by the numbers above .., never by the program" (a part of answers, said by itself)
  pub numbers : (n : ℕ) (c : Call) → Nth n cs c → c.answer.number ≡ number_of (stood t cs n) (request_of c)
  -- "a refused call changes nothing": settings and stores, zero counts, the printer buffer
  pub refused : (n : ℕ) (c : Call) → Nth n cs c → (c.answer.number ≡ 0 → ⊥)
      → (c.left ≡ c.given) × (c.answer ≡ blank_answer c.answer.number 0) × (c.printer ≡ c.buffer)
  -- "and a refusal changes nothing"
  pub refusals : (n : ℕ) → n < item_count t cs → refused_event (event t cs n) ≡ true → before t cs (suc n) ≡ before t cs n
  -- P6, the record of a pack's first refusal; 0 of any other call
  pub records : (n : ℕ) (c : Call) → Nth n cs c → c.in_record ≡ record_of (stood t cs n) (request_of c)
  -- "every byte of the message belongs to exactly one item", or waits: the bytes that waited and those sent are an accepted call's items, each
  -- behind the one before, and the bytes that wait then; all that were sent are taken
  pub once : (n : ℕ) (c : Call) → Nth n cs c → c.answer.number ≡ 0 → packed? c.asked ≡ false
      → (held_in (stood t cs n).state.settings ++ sent_by c.asked ≡ joined (bytes_read (reads_in (stood t cs n) (request_of c))) ++ held_in c.left.state.settings)
      × (InOrder (start_of (stood t cs n).state.settings c.asked) (reads_in (stood t cs n) (request_of c))) × (c.answer.taken ≡ length (sent_by c.asked))
  -- a whole message is read while none waits: its items are the message, cut, from offset 0
  pub whole : (n : ℕ) (c : Call) → Nth n cs c → c.answer.number ≡ 0 → (m : List ℕ) → c.asked ≡ message m
      → (joined (bytes_read (reads_in (stood t cs n) (request_of c))) ≡ m) × (InOrder 0 (reads_in (stood t cs n) (request_of c))) × (c.answer.taken ≡ length m)
  -- P6, of an accepted pack, body by body: every byte of a body belongs to exactly one item, and the offsets are "in that body"
  pub once_each : (n : ℕ) (c : Call) → Nth n cs c → c.answer.number ≡ 0 → (p : List ℕ) → c.asked ≡ pack p
      → (InBodies (bodies_of p) (reads_in (stood t cs n) (request_of c))) × (c.answer.taken ≡ length (joined (bodies_of p)))
  -- "the waiting bytes and the count moving as said here"
  pub line : (n : ℕ) (c : Call) → Nth n cs c → c.answer.number ≡ 0
      → (held_in c.left.state.settings ≡ waits_after (stood t cs n).state.settings c.asked) × (c.left.state.settings.count ≡ count_after (stood t cs n).state.settings c.asked)
  -- what stands after each call is what the items of the list made, up to that call's last
  pub by_items : (n : ℕ) → n ≤ length cs → (left t (take n cs)).state ≡ before t cs (length (events_over t (requests (take n cs))))
  -- P2, an accepted key call: "it sets the texts and reads nothing", and paints nothing
  pub key_sets : (n : ℕ) (c : Call) → Nth n cs c → c.answer.number ≡ 0 → (k : ℕ) (x : List ℕ) → c.asked ≡ key_text k x
      → (c.left ≡ record { state = texted k x c.given.state; shown = c.given.shown }) × (reads_in (stood t cs n) (request_of c) ≡ []) × (c.answer ≡ blank_answer 0 0) × (c.printer ≡ c.buffer)
  -- P6, "In demand 3's lists an accepted pack stands for its messages, a refused one for none": the list with each pack replaced so leaves the same,
  -- and the same happens in it, so that a stretch runs through a pack
  pub packs : (n : ℕ) → n ≤ length cs → let qs = requests (take n cs) in (left t (take n cs) ≡ stands t (unpacked t qs)) × (events_over t qs ≡ events_over t (unpacked t qs))
  -- "An empty pack that passes 1, 3 and 16 does nothing"
  pub empty_pack : (n : ℕ) (c : Call) → Nth n cs c → c.answer.number ≡ 0 → c.asked ≡ pack []
      → (c.left ≡ c.given) × (c.answer ≡ blank_answer 0 0) × (c.in_record ≡ 0) × (c.printer ≡ c.buffer)
  -- P12, an accepted short message: it is the message but for the places, and what its own promises say of these
  pub short_message : (n : ℕ) (c : Call) → Nth n cs c → c.answer.number ≡ 0 → (m : List ℕ) → c.asked ≡ short m → Quick c m
  -- from an accepted opening on, all 640 places show the picture of what stands, while no key call is accepted
  pub opened_shown : Opening t → (n : ℕ) → n ≤ length cs → NoKey cs 0 n → Shown (left t (take n cs))
  -- from the first accepted message, piece, closing or pack with a message on, too; and after a key call from the next one on
  pub message_shown : (i : ℕ) (c : Call) → Nth i cs c → c.answer.number ≡ 0 → paints? c.asked ≡ true → (n : ℕ) → i < n → n ≤ length cs → NoKey cs (suc i) n → Shown (left t (take n cs))
  -- and rows 1 to 7 whatever key calls are accepted
  pub opened_rows : Opening t → (n : ℕ) → n ≤ length cs → ShownIn above_row8 (left t (take n cs))
  pub message_rows : (i : ℕ) (c : Call) → Nth i cs c → c.answer.number ≡ 0 → paints? c.asked ≡ true → (n : ℕ) → i < n → n ≤ length cs → ShownIn above_row8 (left t (take n cs))
  -- by place, from whichever places show the picture at the start
  pub shown : (places : ℕ → Bool) → ShownIn places t → (n : ℕ) → n ≤ length cs → ShownIn (claimed t (requests (take n cs)) places) (left t (take n cs))
  -- P11: "Nothing else read in modes 0 to 2 touches dots": no event there but a mode setting
  pub dots_stay : (n : ℕ) → n < item_count t cs → ((before t cs n).settings.mode ≡ 3 → ⊥) → sets_mode (event t cs n) ≡ false
      → (before t cs (suc n)).dots ≡ (before t cs n).dots
  -- FROM AN ACCEPTED OPENING, OR FROM SOUND SETTINGS
  -- no call is refused but by 2, a message, a short one or a piece over 4,096 bytes, by 15, a piece past the limit, by 16, a message, a short one
  -- or a pack while bytes wait, by 17, a key number outside 1 to 10 or a text not of 8 bytes, and a pack by 19, 20, 21 and 2
  pub numbered : Start t → (n : ℕ) (c : Call) → Nth n cs c → c.answer.number ≡ first_of (own_reasons (stood t cs n).state.settings c.asked)
  -- before and after every item: the settings sound, each cursor and window inside its screen (P11: in mode 3 screen 1's alone), the screens' cells
  -- apart and among the 3,840
  pub standing : Start t → (n : ℕ) → n ≤ item_count t cs → Standing (before t cs n)
  -- and after each call, the shown screen of its size
  pub left_standing : Start t → (n : ℕ) → n ≤ length cs → (Standing (left t (take n cs)).state) × (length (left t (take n cs)).shown ≡ 640)
  -- "The cursor's line is looked for right after the item, on the selected screen"
  pub tracks : Start t → (n : ℕ) → n < item_count t cs → must_follow (event t cs n) ≡ true → (before t cs n).settings.tracking ≡ 1 → InWindow (before t cs (suc n))
  -- a stretch leaves each cell and the cursor of the other screen (with its flag, P9, and its marks, P5) as they were
  pub stretch : Start t → (i j k : ℕ) → i ≤ j → j ≤ item_count t cs → Stretch t cs i j k → (o : ℕ) → o < 2 → (o ≡ k → ⊥) → Unchanged o (before t cs i) (before t cs j)
  -- and its window, with no changed 211 among the items
  pub windows : Start t → (i j k : ℕ) → i ≤ j → j ≤ item_count t cs → Still t cs i j k → (o : ℕ) → o < 2 → (o ≡ k → ⊥) → SameWindow o (before t cs i) (before t cs j)

-- "a single claim about a whole list and not one for each call"
abbrev pub Demand : Type 0
Demand = (t : Terminal) (cs : List Call) → Made t cs → Demand3 t cs

-- calls that ask for messages alone
pub data AllMessages : List Call → Type 0 where
  no_more : AllMessages []
  another : {c : Call} {cs : List Call} (m : List ℕ) → c.asked ≡ message m → AllMessages cs → AllMessages (c ∷ cs)

-- of lists of messages alone, from a start where none waits, what demand 3 said before P1: no call is refused but a message over 4,096 bytes
abbrev pub AsBefore : Type 0
AsBefore = (t : Terminal) (cs : List Call) → Made t cs → Start t → t.state.settings.held ≡ 0 → AllMessages cs
    → (n : ℕ) (c : Call) → Nth n cs c → (m : List ℕ) → c.asked ≡ message m → c.answer.number ≡ cond (sendable m) 0 2
