-- A stream by its requests: items, what stands, answers and printer bytes over the calls together, from any waiting bytes and any count.
use mathlib.Core.Path.{◌∙◌, ◌≡◌, ap, refl, subst, sym}
use Prim.Native.Nat.{◌+◌, ◌-◌, ℕ}
use mathlib.Core.Bool.{Bool, cond, false, true}
use mathlib.Core.List.{List, [], ◌++◌, ◌∷◌, append-nil}
use lib.ListN.{length, length-append}
use Rattle.model.specs.declared.Answer.{Answer}
use Rattle.model.specs.declared.Settings.{Settings}
use Rattle.model.specs.State.{State}
use Rattle.model.specs.Line.{held_in}
use Rattle.model.specs.Sound.{Sound}
use Rattle.model.specs.Picture.{painting}
use Rattle.model.specs.Reading.{Read, gathered, lastly, remaining}
use Rattle.model.specs.Rules.{with_settings}
use Rattle.model.specs.Items.{apply_all, blank_answer, copies, counted_all, events_of, lined}
use Rattle.calls.specs.Calls.{Request, Terminal, granted, answer_of, closing, item_bytes, number_of, piece, printed_by, reads_by, reads_in, request, served, start_of, taken_by}
use Rattle.calls.specs.Claims.{count_after, waits_after}
use Rattle.calls.specs.Lists.{stands}
use Rattle.theorems.specs.Streams.{met13, reads_over}
use Rattle.model.specs.Answers.{together}
use Rattle.laws.proofs.Lined.{applied-lined, copies_lined}
use Rattle.model.proofs.Events.{applied_append}
use Rattle.calls.proofs.Printing.{printed_reads, prints_append, reads_granted}
use Rattle.calls.proofs.CallLaws.{granted_answer, granted_leaves, granted_sound, after, refused_answer, refused_leaves, refused_prints}
use Rattle.calls.proofs.LineAfter.{leaves_lined, line_after}
use Rattle.theorems.proofs.AlwaysRoom.{ahead, ahead_piece, reads_with_room, with_room_lined, met_append, reads_with_room_lem}
use Rattle.model.proofs.AnswerLaws.{joint, joint_refused}
use Rattle.calls.proofs.OverRequests.{printed_over, answers_over}
use Rattle.model.proofs.LineLaws.{held_counted}

-- requests of which the accepted ones are pieces and then one closing; and the bytes of these pieces, joined
pub data Streaming : Terminal → List Request → List ℕ → Type 0 where
  closes : {t : Terminal} {room : ℕ} → granted t (request closing room) ≡ true → Streaming t (request closing room ∷ []) []
  goes : {t : Terminal} {m : List ℕ} {room : ℕ} {qs : List Request} {bs : List ℕ}
      → granted t (request (piece m) room) ≡ true → Streaming (served t (request (piece m) room)) qs bs → Streaming t (request (piece m) room ∷ qs) (m ++ bs)
  skips : {t : Terminal} {q : Request} {qs : List Request} {bs : List ℕ} → granted t q ≡ false → Streaming t qs bs → Streaming t (q ∷ qs) bs

-- its first accepted call is made of the terminal itself, so that is sound
pub streaming_sound : {t : Terminal} {qs : List Request} {bs : List ℕ} → Streaming t qs bs → Sound t.state.settings
streaming_sound {t} (closes {room = room} a) = granted_sound t (request closing room) a
streaming_sound {t} (goes {m = m} {room = room} a s) = granted_sound t (request (piece m) room) a
streaming_sound (skips a s) = streaming_sound s

-- a refused call reads nothing and leaves all
reads_refused : (t : Terminal) (q : Request) → granted t q ≡ false → reads_in t q ≡ []
unfolding reads_in
reads_refused t q e = ap (λ (b : Bool). cond b (reads_by t q) []) e

over_refused : (t : Terminal) (q : Request) (qs : List Request) → granted t q ≡ false → reads_over t (q ∷ qs) ≡ reads_over t qs
unfolding reads_over
over_refused t q qs e = ap (λ (l : List Read). l ++ reads_over (served t q) qs) (reads_refused t q e) ∙ ap (λ (x : Terminal). reads_over x qs) (refused_leaves t q e)

none_more : (l : List Read) → l ++ [] ≡ l
none_more l = append-nil l

-- a piece: what it leaves, over its items
piece_leaves : (t : Terminal) (m : List ℕ) (room : ℕ) → let q = request (piece m) room in granted t q ≡ true
    → (served t q).state ≡ lined (remaining (held_in t.state.settings) m) (t.state.settings.count + length m) (apply_all (events_of (reads_in t q)) t.state)
unfolding waits_after count_after
piece_leaves t m room e =
    let q : Request = request (piece m) room in
    leaves_lined t (piece m) room e refl
    ∙ ap (λ (rs : List Read). lined (remaining (held_in t.state.settings) m) (t.state.settings.count + length m) (apply_all (events_of rs) t.state)) (sym (reads_granted t q e))

closing_leaves : (t : Terminal) (room : ℕ) → let q = request closing room in granted t q ≡ true → (served t q).state ≡ lined [] 0 (apply_all (events_of (reads_in t q)) t.state)
unfolding waits_after count_after
closing_leaves t room e =
    let q : Request = request closing room in
    leaves_lined t closing room e refl ∙ ap (λ (rs : List Read). lined [] 0 (apply_all (events_of rs) t.state)) (sym (reads_granted t q e))

-- the items
pub streaming_items : {t : Terminal} {qs : List Request} {bs : List ℕ} → Streaming t qs bs → met13 (reads_over t qs) ≡ false
    → reads_over t qs ≡ ahead (held_in t.state.settings) t.state.settings.count t.state bs
unfolding reads_over ahead reads_by item_bytes start_of gathered remaining waits_after count_after
streaming_items {t} (closes {room = room} a) e =
    let q : Request = request closing room in
    let s : Settings = t.state.settings in
    let i : reads_in t q ++ [] ≡ reads_by t q = none_more (reads_in t q) ∙ reads_granted t q a in
    i ∙ reads_with_room_lem (lastly (held_in s)) (s.count - length (held_in s)) t.state room (subst (λ (l : List Read). met13 l ≡ false) i e)
streaming_items {t} (goes {m = m} {room = room} {qs = qs} {bs = bs} a f) e =
    let q : Request = request (piece m) room in
    let s : Settings = t.state.settings in
    let w : List ℕ = held_in s in
    let r : List ℕ = remaining w m in
    let n : ℕ = s.count + length m in
    let rs : List Read = reads_with_room (gathered w m) (s.count - length w) t.state in
    let z = met_append (reads_in t q) (reads_over (served t q) qs) e in
    let i : reads_in t q ≡ rs = reads_granted t q a ∙ reads_with_room_lem (gathered w m) (s.count - length w) t.state room (subst (λ (l : List Read). met13 l ≡ false) (reads_granted t q a) z.0) in
    let st : (served t q).state ≡ lined r n (apply_all (events_of rs) t.state) = piece_leaves t m room a ∙ ap (λ (l : List Read). lined r n (apply_all (events_of l) t.state)) i in
    let l = line_after t (piece m) room a in
    let rest : List (List ℕ) = gathered r bs ++ lastly (remaining r bs) in
    let go : reads_over (served t q) qs ≡ ahead r n (apply_all (events_of rs) t.state) bs =
    streaming_items f z.1 ∙ (λ j. ahead (l.0 j) (l.1 j) (st j) bs) ∙ with_room_lined r n rest (n - length r) (apply_all (events_of rs) t.state) in
    (λ j. i j ++ go j) ∙ sym (ahead_piece w s.count t.state m bs (held_counted s (granted_sound t q a)))
streaming_items {t} (skips {q = q} {qs = qs} {bs = bs} a f) e =
    let i = over_refused t q qs a in
    i ∙ streaming_items f (subst (λ (l : List Read). met13 l ≡ false) i e)

-- what stands
lined-lined : (w v : List ℕ) (n k : ℕ) (st : State) → lined w n (lined v k st) ≡ lined w n st
unfolding lined with_settings
lined-lined w v n k st = refl

pub streaming_state : {t : Terminal} {qs : List Request} {bs : List ℕ} → Streaming t qs bs → (stands t qs).state ≡ lined [] 0 (apply_all (events_of (reads_over t qs)) t.state)
unfolding stands reads_over
streaming_state {t} (closes {room = room} a) =
    closing_leaves t room a ∙ ap (λ (l : List Read). lined [] 0 (apply_all (events_of l) t.state)) (sym (none_more (reads_in t (request closing room))))
streaming_state {t} (goes {m = m} {room = room} {qs = qs} a f) =
    let q : Request = request (piece m) room in
    let s : Settings = t.state.settings in
    let r : List ℕ = remaining (held_in s) m in
    let n : ℕ = s.count + length m in
    let x : State = apply_all (events_of (reads_in t q)) t.state in
    let rs : List Read = reads_over (served t q) qs in
    streaming_state f ∙ ap (λ (y : State). lined [] 0 (apply_all (events_of rs) y)) (piece_leaves t m room a)
    ∙ ap (lined [] 0) (applied-lined r n rs x) ∙ lined-lined [] r 0 n (apply_all (events_of rs) x)
    ∙ ap (lined [] 0) (sym (applied_append (reads_in t q) rs t.state))
streaming_state {t} (skips {q = q} {qs = qs} a f) =
    ap (λ (x : Terminal). (stands x qs).state) (refused_leaves t q a) ∙ streaming_state f
    ∙ ap (λ (l : List Read). lined [] 0 (apply_all (events_of l) t.state)) (sym (over_refused t q qs a))

-- closing paints
pub streaming_shown : {t : Terminal} {qs : List Request} {bs : List ℕ} → Streaming t qs bs → (stands t qs).shown ≡ painting (stands t qs).state
unfolding stands after
streaming_shown {t} (closes {room = room} a) = subst (λ (x : Terminal). x.shown ≡ painting x.state) (sym (granted_leaves t (request closing room) a)) refl
streaming_shown (goes a f) = streaming_shown f
streaming_shown {t} (skips {q = q} {qs = qs} a f) = subst (λ (x : Terminal). (stands x qs).shown ≡ painting (stands x qs).state) (sym (refused_leaves t q a)) (streaming_shown f)

pub streaming_prints : {t : Terminal} {qs : List Request} {bs : List ℕ} → Streaming t qs bs → printed_over t qs ≡ copies (events_of (reads_over t qs)) t.state
unfolding printed_over reads_over
streaming_prints {t} (closes {room = room} a) =
    let q : Request = request closing room in
    append-nil (printed_by t q) ∙ printed_reads t q ∙ ap (λ (l : List Read). copies (events_of l) t.state) (sym (none_more (reads_in t q)))
streaming_prints {t} (goes {m = m} {room = room} {qs = qs} a f) =
    let q : Request = request (piece m) room in
    let s : Settings = t.state.settings in
    let x : State = apply_all (events_of (reads_in t q)) t.state in
    let rs : List Read = reads_over (served t q) qs in
    let go : printed_over (served t q) qs ≡ copies (events_of rs) x =
    streaming_prints f ∙ ap (copies (events_of rs)) (piece_leaves t m room a) ∙ copies_lined (remaining (held_in s) m) (s.count + length m) rs x in
    (λ j. printed_reads t q j ++ go j) ∙ sym (prints_append (reads_in t q) rs t.state)
streaming_prints {t} (skips {q = q} {qs = qs} a f) =
    (λ j. refused_prints t q a j ++ printed_over (refused_leaves t q a j) qs) ∙ streaming_prints f
    ∙ ap (λ (l : List Read). copies (events_of l) t.state) (sym (over_refused t q qs a))

answer_in : (t : Terminal) (q : Request) → granted t q ≡ true → answer_of t q ≡ counted_all (reads_in t q) (blank_answer 0 (taken_by q.asked))
answer_in t q e = granted_answer t q e ∙ ap (λ (l : List Read). counted_all l (blank_answer 0 (taken_by q.asked))) (sym (reads_granted t q e))

pub streaming_counts : {t : Terminal} {qs : List Request} {bs : List ℕ} → Streaming t qs bs → answers_over t qs ≡ counted_all (reads_over t qs) (blank_answer 0 (length bs))
unfolding answers_over reads_over counted_all taken_by
streaming_counts {t} (closes {room = room} a) =
    let q : Request = request closing room in
    ap (λ (x : Answer). together x (blank_answer 0 0)) (answer_in t q a) ∙ joint (reads_in t q) [] 0 0
streaming_counts {t} (goes {m = m} {room = room} {qs = qs} {bs = bs} a f) =
    let q : Request = request (piece m) room in
    (λ j. together (answer_in t q a j) (streaming_counts f j))
    ∙ joint (reads_in t q) (reads_over (served t q) qs) (length m) (length bs)
    ∙ ap (λ (n : ℕ). counted_all (reads_in t q ++ reads_over (served t q) qs) (blank_answer 0 n)) (sym (length-append m bs))
streaming_counts {t} (skips {q = q} {qs = qs} {bs = bs} a f) =
    ap (λ (x : Answer). together x (answers_over (served t q) qs)) (refused_answer t q a) ∙ joint_refused (number_of t q) (answers_over (served t q) qs)
    ∙ ap (λ (x : Terminal). answers_over x qs) (refused_leaves t q a) ∙ streaming_counts f
    ∙ ap (λ (l : List Read). counted_all l (blank_answer 0 (length bs))) (sym (over_refused t q qs a))
