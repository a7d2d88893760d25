-- P6: an accepted pack does what its messages do, sent one by one in the room left over: the same happens, the same stands, is printed and answered, and the
-- first refusal is in the same record.
use mathlib.Core.Path.{◌∙◌, ◌≡◌, ap, refl, subst, sym}
use Prim.Native.Nat.{◌+◌, ◌-◌, ◌≤◌, ℕ}
use mathlib.Core.Bool.{Bool, ◌&&◌, cond, true}
use mathlib.Core.List.{List, [], ◌++◌, ◌∷◌, append-nil, map}
use lib.ListN.{length, length-append}
use lib.Dec.{eqb}
use borrow.Author.Tests.{leb-true}
use Rattle.model.specs.declared.Answer.{Answer}
use Rattle.model.specs.Bytes.{joined}
use Rattle.model.specs.Sound.{Good}
use Rattle.model.specs.Picture.{painting}
use Rattle.model.specs.Reading.{Read, uncut}
use Rattle.model.specs.Records.{Record, all?, records_of}
use Rattle.calls.specs.Packs.{bodies_of, reads_each, record_from, some?}
use Rattle.model.specs.Items.{Event, apply_all, blank_answer, copies, counted_all, events_of, reads_of}
use Rattle.calls.specs.Calls.{Request, Terminal, granted, answer_of, beside_items, events_by, events_in, item_bytes, message, pack, printed_by, reads_by, record_of, request, served, sendable, sendable_in, start_of, taken_by}
use Rattle.calls.specs.Lists.{events_over, one_by_one, stands}
use Rattle.model.specs.Answers.{together}
use Rattle.model.proofs.Tests.{and_left, and_right}
use Rattle.model.proofs.Events.{events_append, good_all}
use Rattle.calls.proofs.CallLaws.{granted_answer, granted-pack, granted-painted, granted_sound, legal_in, message_granted, sized_good, sized_served, sizes, state_served}
use Rattle.calls.proofs.LineAfter.{leaves_none, quiet_served}
use Rattle.model.proofs.AnswerLaws.{joint}
use Rattle.calls.proofs.OverRequests.{answers_over, printed_over, prints_over, state_stands}

-- messages that are short
pub data AllSendable : List (List ℕ) → Type 0 where
  none_sendable : AllSendable []
  also_sendable : {m : List ℕ} {ms : List (List ℕ)} → length m ≤ 4096 → AllSendable ms → AllSendable (m ∷ ms)

sendable_bodies : (p : List ℕ) → sendable_in p ≡ true → AllSendable (bodies_of p)
unfolding sendable_in bodies_of all?
sendable_bodies p e = go (records_of p) e
  where
    go : (rs : List Record) → all? (λ (r : Record). sendable r.body) rs ≡ true → AllSendable (map (λ (r : Record). r.body) rs)
    go [] e = none_sendable
    go (r ∷ rs) e = also_sendable (leb-true _ _ (and_left (sendable r.body) _ e)) (go rs (and_right (sendable r.body) _ e))

-- a terminal that accepts every short message: good, and none waits
pub record Quiet (t : Terminal) : Type 0 where
  pub good : Good t.state
  pub shown_is : length t.shown ≡ 640
  pub none_waits_lem : t.state.settings.held ≡ 0

-- a message of a pack, from there: it is accepted, and leaves such a terminal
module _ {t : Terminal} (h : Quiet t) (m : List ℕ) (l : length m ≤ 4096) (room : ℕ) where
  abbrev q : Request
  q = request (message m) room

  abbrev rs : List Read
  rs = reads_of (uncut m) 0 t.state room

  pub quiet_granted : granted t q ≡ true
  quiet_granted = message_granted t m room (sized_good t h.good h.shown_is) h.good.sound h.none_waits_lem l

  pub quiet_left : Quiet (served t q)
  quiet_left = record {
    good = subst Good (sym (state_served t q)) (good_all _ t.state h.good (legal_in t q));
    shown_is = sized_served t q h.shown_is;
    none_waits_lem = quiet_served t m room h.none_waits_lem;
  }

  -- what happens in it are its items
  its_events : events_in t q ≡ events_of rs
  unfolding events_in events_by reads_by item_bytes start_of beside_items
  its_events = ap (λ (b : Bool). cond b (events_by t q) []) quiet_granted ∙ append-nil (events_of rs)

  its_answer : answer_of t q ≡ counted_all rs (blank_answer 0 (length m))
  unfolding reads_by item_bytes start_of taken_by
  its_answer = granted_answer t q quiet_granted

  its_state : (served t q).state ≡ apply_all (events_of rs) t.state
  its_state = state_served t q ∙ ap (λ (es : List Event). apply_all es t.state) its_events

  -- what is left of the room
  left_over_lem : room - (answer_of t q).printed ≡ room - (counted_all rs (blank_answer 0 (length m))).printed
  left_over_lem = ap (λ (a : Answer). room - a.printed) its_answer

-- the messages, one by one
pub events_each : {ms : List (List ℕ)} → AllSendable ms → (t : Terminal) → Quiet t → (room : ℕ) → events_over t (one_by_one t ms room) ≡ events_of (reads_each ms t.state room)
unfolding events_over one_by_one reads_each
events_each none_sendable t h room = refl
events_each (also_sendable {m = m} {ms = ms} l k) t h room =
    let q : Request = request (message m) room in
    let rest = events_each k (served t q) (quiet_left h m l room) (room - (answer_of t q).printed) in
    (λ i. its_events h m l room i ++ (rest ∙ (λ j. events_of (reads_each ms (its_state h m l room j) (left_over_lem h m l room j)))) i) ∙ sym (events_append (reads_of (uncut m) 0 t.state room) _)

pub answers_each : {ms : List (List ℕ)} → AllSendable ms → (t : Terminal) → Quiet t → (room : ℕ) → answers_over t (one_by_one t ms room) ≡ counted_all (reads_each ms t.state room) (blank_answer 0 (length (joined ms)))
unfolding answers_over one_by_one reads_each joined counted_all
answers_each none_sendable t h room = refl
answers_each (also_sendable {m = m} {ms = ms} l k) t h room =
    let q : Request = request (message m) room in
    let rs : List Read = reads_of (uncut m) 0 t.state room in
    let ss : List Read = reads_each ms (apply_all (events_of rs) t.state) (room - (counted_all rs (blank_answer 0 (length m))).printed) in
    let rest = answers_each k (served t q) (quiet_left h m l room) (room - (answer_of t q).printed) in
    (λ i. together (its_answer h m l room i) ((rest ∙ (λ j. counted_all (reads_each ms (its_state h m l room j) (left_over_lem h m l room j)) (blank_answer 0 (length (joined ms))))) i))
    ∙ joint rs ss (length m) (length (joined ms)) ∙ ap (λ (n : ℕ). counted_all (rs ++ ss) (blank_answer 0 n)) (sym (length-append m (joined ms)))

-- the first request whose answer has a refusal, the first of them being k; 0 if none
unfoldable pub refused_from : ℕ → Terminal → List Request → ℕ
refused_from k t [] = 0
refused_from k t (q ∷ qs) = cond (eqb (answer_of t q).refused 0) (refused_from (k + 1) (served t q) qs) k

pub record_each : {ms : List (List ℕ)} → AllSendable ms → (k : ℕ) (t : Terminal) → Quiet t → (room : ℕ) → refused_from k t (one_by_one t ms room) ≡ record_from k ms t.state room
unfolding refused_from one_by_one record_from
record_each none_sendable k t h room = refl
record_each (also_sendable {m = m} {ms = ms} l f) k t h room =
    let q : Request = request (message m) room in
    let rest = record_each f (k + 1) (served t q) (quiet_left h m l room) (room - (answer_of t q).printed) in
    λ i. cond (eqb (its_answer h m l room i).refused 0) ((rest ∙ (λ j. record_from (k + 1) ms (its_state h m l room j) (left_over_lem h m l room j))) i) k

-- the last of them paints all of the shown screen
shown_each : {m : List ℕ} {ms : List (List ℕ)} → AllSendable (m ∷ ms) → (t : Terminal) → Quiet t → (room : ℕ) → let x = stands t (one_by_one t (m ∷ ms) room) in x.shown ≡ painting x.state
unfolding stands one_by_one
shown_each {m} (also_sendable l none_sendable) t h room =
    let q : Request = request (message m) room in
    subst (λ (x : Terminal). x.shown ≡ painting x.state) (sym (granted-painted t q (quiet_granted h m l room) refl)) refl
shown_each {m} (also_sendable l (also_sendable k f)) t h room = let q : Request = request (message m) room in shown_each (also_sendable k f) (served t q) (quiet_left h m l room) (room - (answer_of t q).printed)

-- an accepted pack
module _ (t : Terminal) (p : List ℕ) (room : ℕ) (e : granted t (request (pack p) room) ≡ true) where
  abbrev asked : Request
  asked = request (pack p) room

  abbrev ms : List (List ℕ)
  ms = bodies_of p

  abbrev sent : List Request
  sent = one_by_one t ms room

  pub pack_quiet : Quiet t
  pack_quiet =
      let f = granted-pack t p room e in
      let z = sizes t f.0 (granted_sound t asked e) in
      record { good = z.0; shown_is = z.1; none_waits_lem = f.2 }

  pub pack_sendable : AllSendable ms
  pack_sendable = sendable_bodies p (granted-pack t p room e).1

  pub pack_events : events_in t asked ≡ events_over t sent
  unfolding events_in events_by reads_by beside_items
  pack_events = ap (λ (b : Bool). cond b (events_by t asked) []) e ∙ append-nil (events_of (reads_each ms t.state room)) ∙ sym (events_each pack_sendable t pack_quiet room)

  pub pack_answer : answer_of t asked ≡ answers_over t sent
  unfolding reads_by taken_by
  pack_answer = granted_answer t asked e ∙ sym (answers_each pack_sendable t pack_quiet room)

  pub pack_record : record_of t asked ≡ refused_from 1 t sent
  unfolding record_of
  pack_record = ap (λ (b : Bool). cond (true && b) (record_from 1 ms t.state room) 0) e ∙ sym (record_each pack_sendable 1 t pack_quiet room)

  pub pack_prints : printed_by t asked ≡ printed_over t sent
  unfolding printed_by
  pack_prints = ap (λ (es : List Event). copies es t.state) pack_events ∙ sym (prints_over t sent)

  pub pack_stands : served t asked ≡ stands t sent
  unfolding one_by_one stands
  pack_stands = go ms refl pack_sendable
    where
      made : (served t asked).state ≡ (stands t sent).state
      made = state_served t asked ∙ ap (λ (es : List Event). apply_all es t.state) pack_events ∙ sym (state_stands t sent)

      go : (ns : List (List ℕ)) → ms ≡ ns → AllSendable ns → served t asked ≡ stands t sent
      go [] n f = leaves_none t p room e n ∙ ap (λ (ns : List (List ℕ)). stands t (one_by_one t ns room)) (sym n)
      go (m ∷ ns) n f =
          let painted : (served t asked).shown ≡ painting (served t asked).state = subst (λ (x : Terminal). x.shown ≡ painting x.state) (sym (granted-painted t asked e (ap some? n))) refl in
          let also : (stands t sent).shown ≡ painting (stands t sent).state = subst (λ (ns : List (List ℕ)). let x = stands t (one_by_one t ns room) in x.shown ≡ painting x.state) (sym n) (shown_each f t pack_quiet room) in
          λ i. record { state = made i; shown = (painted ∙ ap painting made ∙ sym also) i }
