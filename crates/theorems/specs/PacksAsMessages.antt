-- Document 02, P6: "One call on a pack up to 60,000 bytes must equal its messages sent one by one, the printer bytes of each following those before,
-- each having the room left over. It gives summed counts and the first refusal with its record (from 1; 0 if none) and its offset in that body":
-- said of a pack call and of the message calls that it stands for, and of whole lists of calls.
use Rattle.std.specs.Prelude.{◌≡◌, ℕ, ◌+◌, ◌-◌, false, cond, List, [], ◌∷◌, ◌++◌, length, eqb}
use Rattle.model.specs.Bytes.{written}
use Rattle.calls.specs.Packs.{bodies_of}
use Rattle.calls.specs.Calls.{Terminal, message, pack, packed?, Call, request_of, Promised, events_in, part_of}
use Rattle.calls.specs.Lists.{Made, left, requests, Nth, events_over}
use Rattle.theorems.specs.Streams.{summed, parts_of}

-- message calls on some bodies, one by one, "each having the room left over"
pub data Sent : ℕ → List (List ℕ) → List Call → Type 0 where
  all_sent : {room : ℕ} → Sent room [] []
  sent_next : {room : ℕ} {m : List ℕ} {ms : List (List ℕ)} {c : Call} {cs : List Call}
      → c.asked ≡ message m → length c.buffer ≡ room → Sent (room - c.answer.printed) ms cs → Sent room (m ∷ ms) (c ∷ cs)

-- the first of some calls whose answer has a refusal, the first of them being k; 0 if none
unfoldable pub first_in : ℕ → List Call → ℕ
first_in k [] = 0
first_in k (c ∷ cs) = cond (eqb c.answer.refused 0) (first_in (k + 1) cs) k

-- a pack call that is its message calls: none of them is refused, the same happens and the same is left; the counts are summed, the record is that of the
-- first refusal; "the printer bytes of each following those before"
pub record AsSent (c : Call) (cs : List Call) : Type 0 where
  pub accepted : (n : ℕ) (d : Call) → Nth n cs d → d.answer.number ≡ 0
  pub left_is : left c.given cs ≡ c.left
  pub happens : events_over c.given (requests cs) ≡ events_in c.given (request_of c)
  pub counts : summed cs ≡ c.answer
  pub first : first_in 1 cs ≡ c.in_record
  pub printed : parts_of cs ≡ part_of c
  pub printer : written (parts_of cs) c.buffer ≡ c.printer

-- the theorem, of one accepted pack
abbrev pub OneByOne : Type 0
OneByOne = (c : Call) (p : List ℕ) (cs : List Call) → Promised c → c.asked ≡ pack p → c.answer.number ≡ 0
    → Made c.given cs → Sent (length c.buffer) (bodies_of p) cs → AsSent c cs

-- calls, and the same with each pack replaced: "an accepted pack stands for its messages, a refused one for none"
pub data Replaced : List Call → List Call → Type 0 where
  no_call : Replaced [] []
  same_call : {c d : Call} {cs ds : List Call} → packed? c.asked ≡ false → d.asked ≡ c.asked → length d.buffer ≡ length c.buffer → Replaced cs ds → Replaced (c ∷ cs) (d ∷ ds)
  refused_pack : {c : Call} {p : List ℕ} {cs ds : List Call} → c.asked ≡ pack p → (c.answer.number ≡ 0 → ⊥) → Replaced cs ds → Replaced (c ∷ cs) ds
  granted_pack : {c : Call} {p : List ℕ} {es cs ds : List Call}
      → c.asked ≡ pack p → c.answer.number ≡ 0 → Sent (length c.buffer) (bodies_of p) es → Replaced cs ds → Replaced (c ∷ cs) (es ++ ds)

-- lists that do the same: terminal, what happens, sums and printer bytes
pub record Likewise (t : Terminal) (cs ds : List Call) : Type 0 where
  pub left_is : left t ds ≡ left t cs
  pub happens : events_over t (requests ds) ≡ events_over t (requests cs)
  pub counts : summed ds ≡ summed cs
  pub printed : parts_of ds ≡ parts_of cs

-- the theorem, of whole lists
abbrev pub Replacing : Type 0
Replacing = (t : Terminal) (cs ds : List Call) → Made t cs → Made t ds → Replaced cs ds → Likewise t cs ds
