-- P6: a pack call and the message calls that it stands for, and whole lists of calls with each pack replaced by its messages: their requests are those of
-- `one_by_one` and `unpacked`, of which Unpacking has it, and PackRequests in the crate `calls`.
use mathlib.Core.Path.{◌∙◌, ◌≡◌, ap, refl, subst, sym}
use Prim.Native.Nat.{◌+◌, ◌-◌, ◌≤◌, ℕ}
use mathlib.Core.Bool.{Bool, cond, false, true}
use mathlib.Core.List.{List, [], ◌++◌, ◌∷◌}
use lib.ListN.{length}
use lib.Dec.{eqb}
use Rattle.model.specs.Bytes.{written}
use Rattle.calls.specs.Packs.{bodies_of}
use Rattle.calls.specs.Calls.{Asked, Call, Request, Terminal, granted, answer_of, events_in, message, number_of, pack, packed_by, printed_by, record_of, request, request_of, served}
use Rattle.calls.specs.Lists.{Made, Nth, events_over, first, later, left, next, none, one_by_one, requests, stands, stands_for, unpacked}
use Rattle.theorems.specs.PacksAsMessages.{OneByOne, Replaced, Replacing, Sent, granted_pack, all_sent, first_in, no_call, refused_pack, same_call, sent_next}
use Rattle.theorems.specs.Streams.{parts_of}
use Rattle.calls.proofs.CallLaws.{number_granted, refused_leaves, refused_number, is_granted, number_is}
use Rattle.calls.proofs.OverRequests.{answers_over, printed_over}
use Rattle.calls.proofs.PackRequests.{AllSendable, Quiet, also_sendable, pack_answer, pack_events, pack_prints, pack_quiet, pack_record, pack_sendable, pack_stands, quiet_granted, quiet_left, refused_from}
use Rattle.theorems.proofs.Unpacking.{answers_unpacked, events_unpacked, prints_unpacked, stands_unpacked}
use Rattle.theorems.proofs.Demand3.{exact_all}
use Rattle.theorems.proofs.Streams.{left_served, parts_are, summed_is}
use Rattle.calls.proofs.Printing.{part_is}

-- a call as it was asked, from a terminal
asked_of : (c : Call) (a : Asked) (room : ℕ) → c.asked ≡ a → length c.buffer ≡ room → request_of c ≡ request a room
asked_of c a room f l = λ i. request (f i) (l i)

-- message calls one by one are those requests
sent_requests : {t : Terminal} {room : ℕ} {ms : List (List ℕ)} {cs : List Call} → Made t cs → Sent room ms cs → requests cs ≡ one_by_one t ms room
unfolding one_by_one
sent_requests none all_sent = refl
sent_requests {t} {room} (next {c = c} {cs = cs} g p d) (sent_next {m = m} {ms = ms} f l s) =
    let q : Request = request (message m) room in
    let fq : request_of c ≡ q = asked_of c (message m) room f l in
    let a : c.answer ≡ answer_of t q = p.answer_is ∙ (λ i. answer_of (g i) (fq i)) in
    let x : c.left ≡ served t q = left_served c t g p ∙ ap (served t) fq in
    λ i. fq i ∷ (sent_requests d s ∙ (λ j. one_by_one (x j) ms (room - (a j).printed))) i

sendable_first : {m : List ℕ} {ms : List (List ℕ)} → AllSendable (m ∷ ms) → length m ≤ 4096
sendable_first (also_sendable k ks) = k

sendable_rest : {m : List ℕ} {ms : List (List ℕ)} → AllSendable (m ∷ ms) → AllSendable ms
sendable_rest (also_sendable k ks) = ks

-- none of them is refused
sent_granted : {t : Terminal} {room : ℕ} {ms : List (List ℕ)} {cs : List Call} → Quiet t → AllSendable ms → Made t cs → Sent room ms cs → (n : ℕ) (d : Call) → Nth n cs d → d.answer.number ≡ 0
sent_granted {room = room} {ms = ms} h ks (none {t = t}) _ n e x14 = elim x14 [ ]
sent_granted {t} {room} h ks (next {c = c} g p d) (sent_next {m = m} f l s) n e first =
    let q : Request = request (message m) room in
    number_is c p ∙ (λ i. number_of (g i) (asked_of c (message m) room f l i)) ∙ number_granted t q (quiet_granted h m (sendable_first ks) room)
sent_granted {t} {room} h ks (next {c = c} g p d) (sent_next {m = m} f l s) n e (later i) =
    let x : c.left ≡ served t (request (message m) room) = left_served c t g p ∙ ap (served t) (asked_of c (message m) room f l) in
    sent_granted (subst Quiet (sym x) (quiet_left h m (sendable_first ks) room)) (sendable_rest ks) d s _ e i

-- the first with a refusal
first_is : {t : Terminal} {cs : List Call} → Made t cs → (k : ℕ) → first_in k cs ≡ refused_from k t (requests cs)
unfolding first_in refused_from
first_is none k = refl
first_is {t} (next {c = c} {cs = cs} g p d) k =
    let a : c.answer ≡ answer_of t (request_of c) = p.answer_is ∙ ap (λ (x : Terminal). answer_of x (request_of c)) g in
    λ i. cond (eqb (a i).refused 0) ((first_is d (k + 1) ∙ ap (λ (x : Terminal). refused_from (k + 1) x (requests cs)) (left_served c t g p)) i) k

pub one_by_one_lem : OneByOne
one_by_one_lem c b cs p f e made s =
    let t : Terminal = c.given in
    let room : ℕ = length c.buffer in
    let q : Request = request (pack b) room in
    let fq : request_of c ≡ q = asked_of c (pack b) room f refl in
    let ok : granted t q ≡ true = subst (λ (q : Request). granted t q ≡ true) fq (is_granted c p e) in
    let rs : requests cs ≡ one_by_one t (bodies_of b) room = sent_requests made s in
    let prints : parts_of cs ≡ printed_by t (request_of c) = parts_are made ∙ ap (printed_over t) rs ∙ sym (pack_prints t b room ok) ∙ ap (printed_by t) (sym fq) in
    record {
      accepted = sent_granted (pack_quiet t b room ok) (pack_sendable t b room ok) made s;
      left_is = exact_all made ∙ ap (stands t) rs ∙ sym (left_served c t refl p ∙ ap (served t) fq ∙ pack_stands t b room ok);
      happens = ap (events_over t) rs ∙ sym (ap (events_in t) fq ∙ pack_events t b room ok);
      counts = summed_is made ∙ ap (answers_over t) rs ∙ sym (p.answer_is ∙ ap (answer_of t) fq ∙ pack_answer t b room ok);
      first = first_is made 1 ∙ ap (refused_from 1 t) rs ∙ sym (p.record_is ∙ ap (record_of t) fq ∙ pack_record t b room ok);
      printed = prints ∙ sym (part_is c p);
      printer = ap (λ (ys : List ℕ). written ys c.buffer) prints ∙ sym p.printer_is;
    }

-- calls one behind the other
made_front : {t : Terminal} (es ds : List Call) → Made t (es ++ ds) → Made t es
made_front [] ds m = none
made_front (e ∷ es) ds (next g p m) = next g p (made_front es ds m)

made_rest : {t : Terminal} (es ds : List Call) → Made t (es ++ ds) → Made (left t es) ds
unfolding left
made_rest [] ds m = m
made_rest (e ∷ es) ds (next g p m) = made_rest es ds m

requests_append : (es ds : List Call) → requests (es ++ ds) ≡ requests es ++ requests ds
requests_append [] ds = refl
requests_append (e ∷ es) ds = ap (λ (l : List Request). request_of e ∷ l) (requests_append es ds)

-- what a pack stands for, by whether it is accepted
stands_for_lem : (t : Terminal) (c : Call) (p : List ℕ) (b : Bool) → c.asked ≡ pack p → granted t (request_of c) ≡ b → stands_for t (request_of c) ≡ cond b (one_by_one t (bodies_of p) (length c.buffer)) []
unfolding stands_for
stands_for_lem t c p b f e =
    let room : ℕ = length c.buffer in
    (λ i. stands_for t (request (f i) room)) ∙ ap (λ (x : Bool). cond x (one_by_one t (bodies_of p) room) []) (sym (ap (λ (a : Asked). granted t (request a room)) f) ∙ e)

-- a list with each pack replaced is the list of requests with each pack replaced
replaced_requests : {t : Terminal} {cs ds : List Call} → Made t cs → Made t ds → Replaced cs ds → requests ds ≡ unpacked t (requests cs)
unfolding unpacked stands_for
replaced_requests (none {t = t}) (next {c = d} {cs = ds} g₂ p₂ m₂) x17 = elim x17 [ ]
replaced_requests none none no_call = refl
replaced_requests {t} (next {c = c} {cs = cs} g p m) (next {c = d} {cs = ds} g₂ p₂ m₂) (same_call n f l r) =
    let fq : request_of d ≡ request_of c = λ i. request (f i) (l i) in
    let own : stands_for t (request_of c) ≡ request_of c ∷ [] = ap (λ (b : Bool). cond b (cond (granted t (request_of c)) (one_by_one t (packed_by c.asked) (length c.buffer)) []) (request_of c ∷ [])) n in
    let x : c.left ≡ served t (request_of c) = left_served c t g p in
    let y : d.left ≡ c.left = left_served d t g₂ p₂ ∙ ap (served t) fq ∙ sym x in
    (λ i. fq i ∷ (replaced_requests m (subst (λ (z : Terminal). Made z ds) y m₂) r ∙ ap (λ (z : Terminal). unpacked z (requests cs)) x) i)
    ∙ ap (λ (l : List Request). l ++ unpacked (served t (request_of c)) (requests cs)) (sym own)
replaced_requests {t} {ds = ds} (next {c = c} {cs = cs} g p m) m₂ (refused_pack {p = b} f e r) =
    let no : granted t (request_of c) ≡ false = refused_number t (request_of c) (λ z. e (number_is c p ∙ ap (λ (x : Terminal). number_of x (request_of c)) g ∙ z)) in
    let x : c.left ≡ served t (request_of c) = left_served c t g p in
    let y : t ≡ c.left = sym (x ∙ refused_leaves t (request_of c) no) in
    replaced_requests m (subst (λ (z : Terminal). Made z ds) y m₂) r
    ∙ (λ i. sym (stands_for_lem t c b false f no) i ++ unpacked (x i) (requests cs))
replaced_requests {t} (next {c = c} {cs = cs} g p m) m₂ (granted_pack {p = b} {es = es} {ds = ds} f e s r) =
    let room : ℕ = length c.buffer in
    let q : Request = request (pack b) room in
    let ok : granted t (request_of c) ≡ true = (λ i. granted (sym g i) (request_of c)) ∙ is_granted c p e in
    let ok₂ : granted t q ≡ true = subst (λ (a : Asked). granted t (request a room) ≡ true) f ok in
    let x : c.left ≡ served t (request_of c) = left_served c t g p in
    let rs : requests es ≡ one_by_one t (bodies_of b) room = sent_requests (made_front es ds m₂) s in
    let y : left t es ≡ c.left = exact_all (made_front es ds m₂) ∙ ap (stands t) rs ∙ sym (x ∙ ap (λ (a : Asked). served t (request a room)) f ∙ pack_stands t b room ok₂) in
    requests_append es ds
    ∙ (λ i. (rs ∙ sym (stands_for_lem t c b true f ok)) i ++ (replaced_requests m (subst (λ (z : Terminal). Made z ds) y (made_rest es ds m₂)) r ∙ ap (λ (z : Terminal). unpacked z (requests cs)) x) i)

pub replacing : Replacing
replacing t cs ds made made₂ r =
    let rs : requests ds ≡ unpacked t (requests cs) = replaced_requests made made₂ r in
    record {
      left_is = exact_all made₂ ∙ ap (stands t) rs ∙ stands_unpacked (requests cs) t ∙ sym (exact_all made);
      happens = ap (events_over t) rs ∙ events_unpacked (requests cs) t;
      counts = summed_is made₂ ∙ ap (answers_over t) rs ∙ answers_unpacked (requests cs) t ∙ sym (summed_is made);
      printed = parts_are made₂ ∙ ap (printed_over t) rs ∙ prints_unpacked (requests cs) t ∙ sym (parts_are made);
    }
