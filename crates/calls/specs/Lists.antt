-- Document 01, "Lists of messages": the words that demand 3 is said in, of lists of calls: how one starts and is made, what stands, happens and is claimed over it.
use Rattle.std.specs.Prelude.{◌≡◌, ℕ, suc, ◌-◌, ◌≤◌, ◌<◌, Bool, false, cond, List, [], ◌∷◌, ◌++◌, map, length, get_or, take}
use Rattle.model.specs.State.{State}
use Rattle.model.specs.Sound.{Sound}
use Rattle.model.specs.Items.{Event, apply_all}
use Rattle.calls.specs.Calls.{Terminal, message, packed?, packed_by, Request, request, Call, request_of, Promised, granted, answer_of, events_in, served}
use Rattle.calls.specs.Opening.{OpeningPromised}
use Rattle.calls.specs.Claims.{unclaims?, claimed_by}
use Rattle.model.specs.Kept.{StillEvent, sets_mode, no_event}

-- "Each call gets the settings and these three stores as the call before left them", P11: and the dots, and keeps its promise
pub data Made : Terminal → List Call → Type 0 where
  none : {t : Terminal} → Made t []
  next : {t : Terminal} {c : Call} {cs : List Call} → c.given ≡ t → Promised c → Made c.left cs → Made t (c ∷ cs)

-- "what an accepted opening leaves": an opening call kept its promise, returned 0, so with rule 1 or 2 (P9), and left this
pub record Opening (t : Terminal) : Type 0 where
  pub rule : ℕ
  pub cells : List ℕ
  pub layer : List ℕ
  pub dots : List ℕ
  pub shown : List ℕ
  pub promised : OpeningPromised rule cells layer dots shown t.state.settings 0 t.state.cells t.state.layer t.state.dots t.shown

-- "or from sound settings with any bytes in cells, layer and shown screen"; P11: and in the dots
pub record Resumed (t : Terminal) : Type 0 where
  pub sound : Sound t.state.settings
  pub cells_are : length t.state.cells ≡ 3840
  pub layer_is : length t.state.layer ≡ 1280
  pub dots_are : length t.state.dots ≡ 3840
  pub shown_is : length t.shown ≡ 640

-- "It starts from"
pub data Start (t : Terminal) : Type 0 where
  opening : Opening t → Start t
  resumed : Resumed t → Start t

-- "What stands is worked out by the rules above from the start, the messages and the printer room of each call alone"
unfoldable pub stands : Terminal → List Request → Terminal
stands t [] = t
stands t (q ∷ qs) = stands (served t q) qs

-- what the last of the calls left
unfoldable pub left : Terminal → List Call → Terminal
left t [] = t
left t (c ∷ cs) = left c.left cs

-- what the calls are worked out from
abbrev pub requests : List Call → List Request
requests cs = map request_of cs

-- what stands before call n of a list, counted from 0
abbrev pub stood : Terminal → List Call → ℕ → Terminal
stood t cs n = stands t (requests (take n cs))

-- the places that are claimed after a list, from those at the start
unfoldable pub claimed : Terminal → List Request → (ℕ → Bool) → ℕ → Bool
claimed t [] places = places
claimed t (q ∷ qs) places = claimed (served t q) qs (claimed_by t q places)

-- call n of a list, counted from 0
pub data Nth : ℕ → List Call → Call → Type 0 where
  first : {c : Call} {cs : List Call} → Nth 0 (c ∷ cs) c
  later : {n : ℕ} {b c : Call} {cs : List Call} → Nth n cs c → Nth (suc n) (b ∷ cs) c

-- no key call is accepted among calls i to n − 1
abbrev pub NoKey : List Call → ℕ → ℕ → Type 0
NoKey cs i n = (j : ℕ) (c : Call) → i ≤ j → j < n → Nth j cs c → c.answer.number ≡ 0 → unclaims? c.asked ≡ false

-- what happens in a whole list, one call's items, line and key text after the other's: "across calls too"
unfoldable pub events_over : Terminal → List Request → List Event
events_over t [] = []
events_over t (q ∷ qs) = events_in t q ++ events_over (served t q) qs

-- P6: messages sent one by one, "each having the room left over"
unfoldable pub one_by_one : Terminal → List (List ℕ) → ℕ → List Request
one_by_one t [] room = []
one_by_one t (m ∷ ms) room = let q = request (message m) room in q ∷ one_by_one (served t q) ms (room - (answer_of t q).printed)

-- what a call stands for: "an accepted pack stands for its messages, a refused one for none"; any other call for itself
unfoldable pub stands_for : Terminal → Request → List Request
stands_for t q = cond (packed? q.asked) (cond (granted t q) (one_by_one t (packed_by q.asked) q.room) []) (q ∷ [])

-- a list with each pack replaced by its messages
unfoldable pub unpacked : Terminal → List Request → List Request
unpacked t [] = []
unpacked t (q ∷ qs) = stands_for t q ++ unpacked (served t q) qs

-- event n of a list, an item or what moves the line or sets a key's text, counted from 0 over all its calls
abbrev pub event : Terminal → List Call → ℕ → Event
event t cs n = get_or (events_over t (requests cs)) n no_event

-- the number of its events
abbrev pub item_count : Terminal → List Call → ℕ
item_count t cs = length (events_over t (requests cs))

-- what stands before event n
abbrev pub before : Terminal → List Call → ℕ → State
before t cs n = apply_all (take n (events_over t (requests cs))) t.state

-- "any items of the list that follow one another, across calls too, each read with the same screen selected and none a mode setting": events i to j − 1, screen k. What moves
-- the line or sets a key's text between two items selects nothing and alters no screen
abbrev pub Stretch : Terminal → List Call → ℕ → ℕ → ℕ → Type 0
Stretch t cs i j k = (n : ℕ) → i ≤ n → n < j → ((before t cs n).settings.selected ≡ k) × (sets_mode (event t cs n) ≡ false)

-- P2, "211 joins 208 as what may move the other window": the same, and none "A changed 211"
abbrev pub Still : Terminal → List Call → ℕ → ℕ → ℕ → Type 0
Still t cs i j k = (n : ℕ) → i ≤ n → n < j → ((before t cs n).settings.selected ≡ k) × StillEvent (event t cs n) (before t cs n)
