-- P1: a closed stream, however it is cut, gives what one reading of its bytes gives; and for bytes that a message may have, what the message
-- call gives.
use mathlib.Core.Path.{◌∙◌, ◌≡◌, ap, refl, subst, sym}
use Prim.Native.Nat.{◌+◌, ◌≤◌, ℕ}
use native.Mathlib.Omega.{arith}
use mathlib.Core.Bool.{false, true}
use mathlib.Core.List.{List, [], ◌++◌, ◌∷◌}
use lib.ListN.{length, length-append, take}
use lib.Dec.{leb}
use borrow.Author.Tests.{le-leb}
use Rattle.model.specs.declared.Settings.{Settings}
use Rattle.model.specs.State.{State}
use Rattle.model.specs.Line.{held_in, limit}
use Rattle.model.specs.Sound.{Good, Sound}
use Rattle.model.specs.Picture.{painting}
use Rattle.model.specs.Reading.{Read, uncut}
use Rattle.model.specs.Items.{apply_all, blank_answer, copies, counted_all, events_of, lined, reads_of}
use Rattle.calls.specs.Calls.{Asked, Call, Promised, Request, Terminal, granted, answer_of, closing, countable, first_of, item_bytes, message, number_of, own_reasons, piece, printed_by, reads_by, reads_in, reason, request, request_of, served, sized, start_of, taken_by}
use Rattle.calls.specs.Claims.{count_after, waits_after}
use Rattle.calls.specs.Lists.{Made, left, next, none, requests, stands}
use Rattle.theorems.specs.Streams.{As, AsMessage, Cut, HoweverCut, Stream, Uncut, closes, cuts, ends, goes, met13, parts_of, reads_over, skips, summed}
use Rattle.model.specs.Answers.{together}
use Rattle.laws.proofs.Lined.{applied-lined}
use Rattle.model.proofs.Events.{good_all}
use Rattle.calls.proofs.Printing.{reads_granted, part_is}
use Rattle.calls.proofs.CallLaws.{granted_answer, granted_leaves, granted_prints, granted_sized, after, left_is, legal_in, message_granted, number_good, refused_leaves, refused_number, sized_served, state_served, is_granted, number_is}
use Rattle.calls.proofs.LineAfter.{count_lined, held_lined, leaves_lined, line_after, self_lined}
use Rattle.theorems.proofs.AlwaysRoom.{ahead, reads_with_room_lem}
use Rattle.theorems.proofs.StreamRequests.{Streaming, streaming_counts, streaming_items, streaming_prints, streaming_shown, streaming_sound, streaming_state}
use Rattle.calls.proofs.OverRequests.{answers_over, printed_over}
use Rattle.theorems.proofs.Demand3.{exact_all, start_resumed}

-- a call that kept its promise, as the request that it is worked out from
asked_granted : (c : Call) (a : Asked) (t : Terminal) → c.given ≡ t → Promised c → c.asked ≡ a → c.answer.number ≡ 0 → granted t (request a (length c.buffer)) ≡ true
asked_granted c a t g p f e = (λ i. granted (sym g i) (request (sym f i) (length c.buffer))) ∙ is_granted c p e

pub left_served : (c : Call) (t : Terminal) → c.given ≡ t → Promised c → c.left ≡ served t (request_of c)
left_served c t g p = left_is c p ∙ ap (λ (x : Terminal). served x (request_of c)) g

streaming_of : {t : Terminal} {cs : List Call} {bs : List ℕ} → Made t cs → Stream cs bs → Streaming t (requests cs) bs
streaming_of {bs = bs} (none {t = t}) x4 = elim x4 [ ]
streaming_of {t} (next {c = c} g p none) (closes f e) =
    subst (λ (a : Asked). Streaming t (request a (length c.buffer) ∷ []) []) (sym f) (Streaming.closes (asked_granted c closing t g p f e))
streaming_of {t} (next {c = c} {cs = cs} g p r) (goes {m = m} {bs = bs} f e s) =
    let l : c.left ≡ served t (request (piece m) (length c.buffer)) = left_served c t g p ∙ ap (λ (a : Asked). served t (request a (length c.buffer))) f in
    subst (λ (a : Asked). Streaming t (request a (length c.buffer) ∷ requests cs) (m ++ bs)) (sym f)
    (Streaming.goes (asked_granted c (piece m) t g p f e) (subst (λ (x : Terminal). Streaming x (requests cs) bs) l (streaming_of r s)))
streaming_of {t} (next {c = c} {cs = cs} g p r) (skips {bs = bs} e s) =
    let n : granted t (request_of c) ≡ false = refused_number t (request_of c) (λ z. e (number_is c p ∙ ap (λ (x : Terminal). number_of x (request_of c)) g ∙ z)) in
    Streaming.skips n (subst (λ (x : Terminal). Streaming x (requests cs) bs) (left_served c t g p ∙ refused_leaves t (request_of c) n) (streaming_of r s))

-- the answers and the printed parts are those of the rules
pub summed_is : {t : Terminal} {cs : List Call} → Made t cs → summed cs ≡ answers_over t (requests cs)
unfolding summed answers_over
summed_is none = refl
summed_is {t} (next {c = c} {cs = cs} g p r) =
    λ i. together ((p.answer_is ∙ ap (λ (x : Terminal). answer_of x (request_of c)) g) i) ((summed_is r ∙ ap (λ (x : Terminal). answers_over x (requests cs)) (left_served c t g p)) i)

pub parts_are : {t : Terminal} {cs : List Call} → Made t cs → parts_of cs ≡ printed_over t (requests cs)
unfolding parts_of printed_over
parts_are none = refl
parts_are {t} (next {c = c} {cs = cs} g p r) =
    λ i. (part_is c p ∙ ap (λ (x : Terminal). printed_by x (request_of c)) g) i ++ (parts_are r ∙ ap (λ (x : Terminal). printed_over x (requests cs)) (left_served c t g p)) i

-- with a count of 0 none waits
quiet_held : (s : Settings) → Sound s → s.count ≡ 0 → s.held ≡ 0
quiet_held s h z = omega (arith, h.line.no_longer, z)

-- what items make of a state with none waiting and a count of 0 has none waiting and a count of 0
quiet_state : (st : State) → Sound st.settings → st.settings.count ≡ 0 → (rs : List Read) → lined [] 0 (apply_all (events_of rs) st) ≡ apply_all (events_of rs) st
quiet_state st h z rs =
    let q : lined [] 0 st ≡ st = (λ i. lined (take (sym (quiet_held st.settings h z) i) st.settings.waiting) (sym z i) st) ∙ self_lined st h in
    sym (applied-lined [] 0 rs st) ∙ ap (apply_all (events_of rs)) q

pub uncut_as : Uncut
unfolding ahead
uncut_as t cs bs room made z stream e f =
    let s : Settings = t.state.settings in
    let streaming : Streaming t (requests cs) bs = streaming_of made stream in
    let sound : Sound s = streaming_sound streaming in
    let u : List Read = reads_of (uncut bs) 0 t.state room in
    let none_held : held_in s ≡ [] = ap (λ (h : ℕ). take h s.waiting) (quiet_held s sound z) in
    let same : reads_over t (requests cs) ≡ u = streaming_items streaming e ∙ (λ i. ahead (none_held i) (z i) t.state bs) ∙ sym (reads_with_room_lem (uncut bs) 0 t.state room f) in
    let x : left t cs ≡ stands t (requests cs) = exact_all made in
    let at : (stands t (requests cs)).state ≡ lined [] 0 (apply_all (events_of u) t.state) = streaming_state streaming ∙ ap (λ (rs : List Read). lined [] 0 (apply_all (events_of rs) t.state)) same in
    let st : (left t cs).state ≡ apply_all (events_of u) t.state = ap (λ (x : Terminal). x.state) x ∙ at ∙ quiet_state t.state sound z u in
    let end : (left t cs).state ≡ lined [] 0 (apply_all (events_of u) t.state) = ap (λ (x : Terminal). x.state) x ∙ at in
    record {
      items = same;
      counts = summed_is made ∙ streaming_counts streaming ∙ ap (λ (rs : List Read). counted_all rs (blank_answer 0 (length bs))) same;
      state = st;
      printed = parts_are made ∙ streaming_prints streaming ∙ ap (λ (rs : List Read). copies (events_of rs) t.state) same;
      shown = ap (λ (x : Terminal). x.shown) x ∙ streaming_shown streaming ∙ ap painting (ap (λ (x : Terminal). x.state) (sym x) ∙ st);
      forgets = (
        ap (λ (y : State). held_in y.settings) end ∙ held_lined [] 0 (apply_all (events_of u) t.state),
        ap (λ (y : State). y.settings.count) end ∙ count_lined [] 0 (apply_all (events_of u) t.state),
      );
    }

-- a stream in short pieces, within the limit, is accepted throughout
cut_stream : {t : Terminal} {cs : List Call} {bs : List ℕ} → Good t.state → length t.shown ≡ 640 → Made t cs → Cut cs bs → t.state.settings.count + length bs ≤ limit → Stream cs bs
unfolding own_reasons first_of countable count_after
cut_stream {bs = bs} g l (none {t = t}) x13 h = elim x13 [ ]
cut_stream {t} g l (next {c = c} x p none) (ends f) h =
    let n : number_of t (request_of c) ≡ 0 = number_good t (request_of c) g l ∙ ap (λ (a : Asked). first_of (own_reasons t.state.settings a)) f in
    closes f (number_is c p ∙ ap (λ (y : Terminal). number_of y (request_of c)) x ∙ n)
cut_stream {t} g l (next {c = c} {cs = cs} x p r) (cuts {m = m} {bs = bs} f k cut) h =
    let s : Settings = t.state.settings in
    let q : Request = request (piece m) (length c.buffer) in
    let e₁ : leb (length m) 4096 ≡ true = le-leb _ _ k in
    let k₂ : s.count + length m ≤ limit = omega (arith, h, length-append m bs) in
    let e₂ : leb (s.count + length m) limit ≡ true = le-leb _ _ k₂ in
    let n : number_of t (request_of c) ≡ 0 = number_good t (request_of c) g l ∙ ap (λ (a : Asked). first_of (own_reasons s a)) f ∙ (λ i. first_of (reason 2 (e₁ i) ∷ reason 15 (e₂ i) ∷ [])) in
    let e : c.answer.number ≡ 0 = number_is c p ∙ ap (λ (y : Terminal). number_of y (request_of c)) x ∙ n in
    let z : c.left ≡ served t (request_of c) = left_served c t x p in
    let good : Good (served t (request_of c)).state = subst Good (sym (state_served t (request_of c))) (good_all _ t.state g (legal_in t (request_of c))) in
    let count : c.left.state.settings.count ≡ s.count + length m =
    ap (λ (y : Terminal). y.state.settings.count) (z ∙ ap (λ (a : Asked). served t (request a (length c.buffer))) f) ∙ (line_after t (piece m) (length c.buffer) (asked_granted c (piece m) t x p f e)).1 in
    goes f e (cut_stream (subst (λ (y : Terminal). Good y.state) (sym z) good) (ap (λ (y : Terminal). length y.shown) z ∙ sized_served t (request_of c) l) r cut (omega (arith, h, count, length-append m bs)))

pub however_cut : HoweverCut
however_cut t cs bs room start made z cut h =
    let r = start_resumed t start in
    let g : Good t.state = record { sound = r.sound; cells_are = r.cells_are; layer_are = r.layer_is; dots_are = r.dots_are } in
    let s : Stream cs bs = cut_stream g r.shown_is made cut (omega (arith, h, z)) in
    (s, λ e f. uncut_as t cs bs room made z s e f)

-- the first accepted call of a stream is made of the terminal itself, so its stores have their sizes
streaming_sized : {t : Terminal} {qs : List Request} {bs : List ℕ} → Streaming t qs bs → sized t ≡ true
streaming_sized {t} (Streaming.closes {room = room} a) = granted_sized t (request closing room) a refl
streaming_sized {t} (Streaming.goes {m = m} {room = room} a s) = granted_sized t (request (piece m) room) a refl
streaming_sized (Streaming.skips a s) = streaming_sized s

pub as_message : AsMessage
unfolding reads_by item_bytes start_of after taken_by waits_after count_after
as_message t cs bs c made z stream g p f l e₁ e₂ =
    let s : Settings = t.state.settings in
    let streaming : Streaming t (requests cs) bs = streaming_of made stream in
    let sound : Sound s = streaming_sound streaming in
    let room : ℕ = length c.buffer in
    let q : Request = request (message bs) room in
    let fq : request_of c ≡ q = ap (λ (a : Asked). request a room) f in
    let ok : granted t q ≡ true = message_granted t bs room (streaming_sized streaming) sound (quiet_held s sound z) l in
    let u : List Read = reads_of (uncut bs) 0 t.state room in
    let ru : reads_in t (request_of c) ≡ u = ap (reads_in t) fq ∙ reads_granted t q ok in
    let one : As u bs t cs = uncut_as t cs bs room made z stream e₁ (subst (λ (rs : List Read). met13 rs ≡ false) ru e₂) in
    let lc : c.left ≡ served t q = left_served c t g p ∙ ap (served t) fq in
    let st : (served t q).state ≡ apply_all (events_of u) t.state =
    leaves_lined t (message bs) room ok refl ∙ ap (λ (n : ℕ). lined [] n (apply_all (events_of u) t.state)) z ∙ quiet_state t.state sound z u in
    let sh : (served t q).shown ≡ painting (served t q).state = subst (λ (x : Terminal). x.shown ≡ painting x.state) (sym (granted_leaves t q ok)) refl in
    let both : left t cs ≡ served t q = λ i. record { state = (one.state ∙ sym st) i; shown = (one.shown ∙ ap painting (sym st) ∙ sym sh) i } in
    record {
      items = one.items ∙ sym ru;
      answer = one.counts ∙ sym (p.answer_is ∙ (λ i. answer_of (g i) (fq i)) ∙ granted_answer t q ok);
      left_is = both ∙ sym lc;
      printed = one.printed ∙ sym (part_is c p ∙ (λ i. printed_by (g i) (fq i)) ∙ granted_prints t q ok);
    }
