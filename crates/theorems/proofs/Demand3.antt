-- Demand 3 of the rules: every list of calls that keep their promises has it. What stands is what the events of the list made;
-- the laws of Events say what any list of events keeps, those of CallLaws what a call does to the shown screen.
use mathlib.Core.Path.{◌∙◌, ◌≡◌, ap, refl, subst, sym}
use Prim.Native.Nat.{◌*◌, ◌+◌, ◌-◌, ◌<◌, ◌≤◌, suc, zero, ℕ}
use native.Mathlib.Nat.{le_of_suc-le-suc, not-suc-le-zero}
use native.Mathlib.Omega.{arith}
use mathlib.Core.Bool.{Bool, ◌&&◌, cond, false, true}
use mathlib.Core.List.{List, [], ◌++◌, ◌∷◌}
use lib.ListN.{length, length-append, take}
use lib.Seq.{take-append-add}
use Rattle.model.specs.declared.Answer.{Answer}
use Rattle.model.specs.declared.Settings.{Settings}
use Rattle.model.specs.Bytes.{joined, written}
use Rattle.model.specs.State.{State}
use Rattle.model.specs.Screens.{base, cell_at, columns_of, line_at, lines_of, size}
use Rattle.model.specs.Line.{held_in}
use Rattle.model.specs.Sound.{Good, Sound}
use Rattle.model.specs.Items.{Event, apply_all, blank_answer, bytes_read, copies, counted_all, reads_of, texted}
use Rattle.model.specs.Records.{records_after}
use Rattle.calls.specs.Packs.{bodies_of, reads_each, record_from}
use Rattle.calls.specs.Calls.{Asked, Call, Promised, Request, Terminal, granted, answer_of, events_in, first_of, item_bytes, key_text, message, number_of, own_reasons, pack, packed?, paints?, printed_by, short, reads_by, reads_in, record_of, request, request_of, sent_by, served, start_of, taken_by}
use Rattle.model.specs.Kept.{Apart, On, Standing, StillEvent, sets_mode}
use Rattle.calls.specs.Claims.{InBodies, InOrder, Quick, Shown, ShownIn, above_row8, count_after, waits_after}
use Rattle.theorems.specs.Demand3.{Demand, Demand3}
use Rattle.calls.specs.Lists.{Made, NoKey, Nth, Resumed, Start, Still, Stretch, before, claimed, event, events_over, first, item_count, later, left, next, none, opening, requests, resumed, stands, stood}
use Rattle.model.proofs.Frames.{SameScreen, Spared}
use Rattle.model.proofs.Keep.{same_refl, same_trans, spared_refl, spared_trans, within}
use Rattle.model.proofs.DotsStay.{event_dots}
use Rattle.model.proofs.ItemLaws.{Obeyed}
use Rattle.model.proofs.Events.{AllLegal, at_next, cell_inside, chained, event_at, good_at, legal_append, refused_nothing, same_window, unchanged, window_at_lem}
use Rattle.calls.proofs.CallLaws.{granted_answer, granted_prints, left_is, legal_in, number_granted, number_good, opening-resumed, opening_shown, refused_answer, refused_leaves, refused_number, refused_prints, shown_granted, sized_served, state_served, number_is, is_granted}
use Rattle.calls.proofs.Printing.{in_bodies, ordered, reads_granted, taken_is, printed_in}
use Rattle.calls.proofs.LineAfter.{leaves_none, leaves_texted, line_after, once, whole}
use Rattle.theorems.proofs.ShownOverCalls.{above_stands, shown_above, shown_served, shown_stands}
use Rattle.theorems.proofs.Unpacking.{events_unpacked, stands_unpacked}
use Rattle.calls.proofs.OverRequests.{state_stands}
use Rattle.model.proofs.Places.{one_cell}
use Rattle.calls.proofs.ShortCall.{short_in}

legal_over : (t : Terminal) (qs : List Request) → AllLegal (events_over t qs) t.state
unfolding events_over
legal_over t [] = tt
legal_over t (q ∷ qs) =
    legal_append (events_in t q) (events_over (served t q) qs) t.state (legal_in t q) (subst (AllLegal (events_over (served t q) qs)) (state_served t q) (legal_over (served t q) qs))

made_take : {t : Terminal} {cs : List Call} → Made t cs → (n : ℕ) → Made t (take n cs)
made_take none zero = none
made_take none (suc n) = none
made_take (next e p m) zero = none
made_take (next e p m) (suc n) = next e p (made_take m n)

-- the calls leave what stands
pub exact_all : {t : Terminal} {cs : List Call} → Made t cs → left t cs ≡ stands t (requests cs)
unfolding left stands
exact_all none = refl
exact_all {t} (next {c = c} {cs = cs} e p m) =
    exact_all m ∙ ap (λ (x : Terminal). stands x (requests cs)) (left_is c p ∙ ap (λ (x : Terminal). served x (request_of c)) e)

-- the items up to a call are a front of the items of the list
front_items : (t : Terminal) (qs : List Request) (n : ℕ) → take (length (events_over t (take n qs))) (events_over t qs) ≡ events_over t (take n qs)
unfolding events_over
front_items t qs zero = refl
front_items t [] (suc n) = refl
front_items t (q ∷ qs) (suc n) =
    ap (λ (k : ℕ). take k (events_in t q ++ events_over (served t q) qs)) (length-append (events_in t q) (events_over (served t q) (take n qs)))
    ∙ take-append-add (events_in t q) (events_over (served t q) qs) (length (events_over (served t q) (take n qs)))
    ∙ ap (λ (l : List Event). events_in t q ++ l) (front_items (served t q) qs n)

map-take : (cs : List Call) (n : ℕ) → requests (take n cs) ≡ take n (requests cs)
map-take cs zero = refl
map-take [] (suc n) = refl
map-take (c ∷ cs) (suc n) = ap (λ (l : List Request). request_of c ∷ l) (map-take cs n)

-- any fact of a call that follows from its promise and what it was given
pub each : (P : Terminal → Call → Type 0) → ((c : Call) → Promised c → P c.given c)
    → {t : Terminal} {cs : List Call} → Made t cs → (n : ℕ) (c : Call) → Nth n cs c → P (stood t cs n) c
unfolding stands
each P given {t} (next g p m) zero c first = subst (λ (x : Terminal). P x c) g (given c p)
each P given {t} (next {c = b} {cs = cs} g p m) (suc n) c (later h) =
    subst (λ (x : Terminal). P (stands x (requests (take n cs))) c) (left_is b p ∙ ap (λ (x : Terminal). served x (request_of b)) g) (each P given m n c h)
each P given (none {t = t}) n c h = elim h [ ]

-- and what it left, from the promise alone
pub left_unaltered : (c : Call) → Promised c → granted c.given (request_of c) ≡ false → (c.left ≡ c.given) × (c.answer ≡ blank_answer (number_of c.given (request_of c)) 0) × (c.printer ≡ c.buffer)
unfolding written
left_unaltered c p e = (
  left_is c p ∙ refused_leaves c.given (request_of c) e,
  p.answer_is ∙ refused_answer c.given (request_of c) e,
  p.printer_is ∙ ap (λ (ys : List ℕ). written ys c.buffer) (refused_prints c.given (request_of c) e),
)

unaltered : (c : Call) → Promised c → (c.answer.number ≡ 0 → ⊥) → (c.left ≡ c.given) × (c.answer ≡ blank_answer c.answer.number 0) × (c.printer ≡ c.buffer)
unaltered c p n =
    let z = left_unaltered c p (refused_number c.given (request_of c) (λ e. n (number_is c p ∙ e))) in
    (z.0, z.1 ∙ ap (λ (n : ℕ). blank_answer n 0) (sym (number_is c p)), z.2)

-- the shown screen: an accepted call that paints makes it true
painted : (c : Call) → Promised c → c.answer.number ≡ 0 → paints? c.asked ≡ true → Shown c.left
painted c p e f = subst Shown (sym (left_is c p)) (shown_granted c.given (request_of c) (is_granted c p e) f)

-- and it stays true while no key call is accepted
shown_left : {t : Terminal} {cs : List Call} → Made t cs → (n : ℕ) → NoKey cs 0 n → Shown t → Shown (left t (take n cs))
unfolding left
shown_left none zero f s = s
shown_left none (suc n) f s = s
shown_left (next g p m) zero f s = s
shown_left {t} (next {c = c} {cs = cs} g p m) (suc n) f s = shown_left m n (λ j b l u h e. f (suc j) b (omega arith) (omega arith) (later h) e) (go (granted c.given (request_of c)) refl)
  where
    go : (b : Bool) → granted c.given (request_of c) ≡ b → Shown c.left
    go true a =
        let e : c.answer.number ≡ 0 = number_is c p ∙ number_granted c.given (request_of c) a in
        subst Shown (sym (left_is c p)) (shown_served c.given c.asked (length c.buffer) (subst Shown (sym g) s) (f 0 c (omega arith) (omega arith) first e) a)
    go false a = subst Shown (sym (left_is c p ∙ refused_leaves c.given (request_of c) a ∙ g)) s

-- a fact that a call that paints makes, and that stays over the calls behind it
from-painting : (StillItem : List Call → ℕ → ℕ → Type 0) (P : Terminal → Type 0)
    → ((c : Call) (cs : List Call) (i n : ℕ) → StillItem (c ∷ cs) (suc i) (suc n) → StillItem cs i n)
    → ((t : Terminal) (cs : List Call) → Made t cs → (n : ℕ) → StillItem cs 0 n → Shown t → P (left t (take n cs)))
    → {t : Terminal} {cs : List Call} → Made t cs → (i : ℕ) (c : Call) → Nth i cs c → c.answer.number ≡ 0 → paints? c.asked ≡ true → (n : ℕ) → i < n → StillItem cs (suc i) n → P (left t (take n cs))
unfolding left
from-painting S P tail go (next g p m) zero c first e f zero l s = absurd (not-suc-le-zero l)
from-painting S P tail go (next {cs = cs} g p m) zero c first e f (suc n) l s = go c.left cs m n (tail c cs 0 n s) (painted c p e f)
from-painting S P tail go (next g p m) (suc i) c (later h) e f zero l s = absurd (not-suc-le-zero l)
from-painting S P tail go (next {c = b} {cs = cs} g p m) (suc i) c (later h) e f (suc n) l s = from-painting S P tail go m i c h e f n (le_of_suc-le-suc l) (tail b cs (suc i) n s)
from-painting S P tail go (none {t = t}) i c h e f n l s = elim h [ ]

no_key_tail : (c : Call) (cs : List Call) (i n : ℕ) → NoKey (c ∷ cs) (suc i) (suc n) → NoKey cs i n
no_key_tail c cs i n f = λ j b l u h e. f (suc j) b (omega arith) (omega arith) (later h) e

-- rows 1 to 7 stay true over all calls
above_left : {t : Terminal} {cs : List Call} → Made t cs → (n : ℕ) → ShownIn above_row8 t → ShownIn above_row8 (left t (take n cs))
above_left {t} {cs} m n h = subst (ShownIn above_row8) (sym (exact_all (made_take m n))) (above_stands (requests (take n cs)) t h)

-- what a key call does
key_in : (c : Call) → Promised c → c.answer.number ≡ 0 → (k : ℕ) (x : List ℕ) → c.asked ≡ key_text k x
    → (c.left ≡ record { state = texted k x c.given.state; shown = c.given.shown }) × (reads_in c.given (request_of c) ≡ []) × (c.answer ≡ blank_answer 0 0) × (c.printer ≡ c.buffer)
unfolding reads_by item_bytes reads_of taken_by counted_all copies written
key_in c p e k x f =
    let q : Request = request (key_text k x) (length c.buffer) in
    let fq : request_of c ≡ q = ap (λ (a : Asked). request a (length c.buffer)) f in
    let a : granted c.given q ≡ true = subst (λ (q : Request). granted c.given q ≡ true) fq (is_granted c p e) in (
      left_is c p ∙ ap (served c.given) fq ∙ leaves_texted c.given k x (length c.buffer) a,
      ap (reads_in c.given) fq ∙ reads_granted c.given q a,
      p.answer_is ∙ ap (answer_of c.given) fq ∙ granted_answer c.given q a,
      p.printer_is ∙ ap (λ (ys : List ℕ). written ys c.buffer) (ap (printed_by c.given) fq ∙ granted_prints c.given q a),
    )

pub sized_stands : (qs : List Request) (t : Terminal) → length t.shown ≡ 640 → length (stands t qs).shown ≡ 640
unfolding stands
sized_stands [] t e = e
sized_stands (q ∷ qs) t e = sized_stands qs (served t q) (sized_served t q e)

-- the screens' cells, place by place
apart_of : (s : Settings) → Sound s → Apart s
unfolding base size lines_of columns_of cell_at line_at
apart_of s h = record {
  first = refl;
  next = refl;
  within = within s h 1 (omega arith);
  among = λ k l c o. omega (arith, within s h k o.screen, inner k l c o);
  one_place = λ k l c l' c' o o' e. one_cell (base s k) (columns_of s k) l c l' c' o.line_low o'.line_low o.column_low o.column_high o'.column_low o'.column_high e;
  none_shared = λ l c l' c' o o' e. omega (arith, e, inner 0 l c o);
}
  where
    inner : (k l c : ℕ) → On s k l c → (l - 1) * columns_of s k + (c - 1) < lines_of s k * columns_of s k
    inner k l c o = cell_inside (columns_of s k) l (lines_of s k) c o.line_low o.line_high o.column_low o.column_high

standing_of : {st : State} → Good st → Standing st
standing_of g = record { sound = g.sound; inside = g.sound.inside; apart = apart_of _ g.sound; cells_are = g.cells_are; layer_is = g.layer_are; dots_are = g.dots_are }

-- the bytes of a call, and its line
abbrev Once : Terminal → Call → Type 0
Once x c = (held_in x.state.settings ++ sent_by c.asked ≡ joined (bytes_read (reads_in x (request_of c))) ++ held_in c.left.state.settings)
    × (InOrder (start_of x.state.settings c.asked) (reads_in x (request_of c))) × (c.answer.taken ≡ length (sent_by c.asked))

abbrev Whole : Terminal → Call → List ℕ → Type 0
Whole x c m = (joined (bytes_read (reads_in x (request_of c))) ≡ m) × (InOrder 0 (reads_in x (request_of c))) × (c.answer.taken ≡ length m)

abbrev LineIs : Terminal → Call → Type 0
LineIs x c = (held_in c.left.state.settings ≡ waits_after x.state.settings c.asked) × (c.left.state.settings.count ≡ count_after x.state.settings c.asked)

taken_in_lem : (c : Call) → Promised c → c.answer.number ≡ 0 → c.answer.taken ≡ length (sent_by c.asked)
taken_in_lem c p e = ap (λ (a : Answer). a.taken) p.answer_is ∙ taken_is c.given (request_of c) (is_granted c p e)

once_in : (c : Call) → Promised c → c.answer.number ≡ 0 → packed? c.asked ≡ false → Once c.given c
once_in c p e n =
    let a = is_granted c p e in (
      once c.given c.asked (length c.buffer) a n ∙ ap (λ (s : Settings). joined (bytes_read (reads_in c.given (request_of c))) ++ held_in s) (sym p.settings_are),
      ordered c.given (request_of c) a n,
      taken_in_lem c p e,
    )

each_in : (c : Call) → Promised c → c.answer.number ≡ 0 → (b : List ℕ) → c.asked ≡ pack b → (InBodies (bodies_of b) (reads_in c.given (request_of c))) × (c.answer.taken ≡ length (joined (bodies_of b)))
each_in c p e b f = (in_bodies c.given (request_of c) (is_granted c p e) b f, taken_in_lem c p e ∙ ap (λ (a : Asked). length (sent_by a)) f)

whole_in : (c : Call) → Promised c → c.answer.number ≡ 0 → (m : List ℕ) → c.asked ≡ message m → Whole c.given c m
unfolding start_of
whole_in c p e m f =
    let q : c.answer.taken ≡ length m = taken_in_lem c p e ∙ ap (λ (a : Asked). length (sent_by a)) f in
    let a : granted c.given (request (message m) (length c.buffer)) ≡ true = subst (λ (a : Asked). granted c.given (request a (length c.buffer)) ≡ true) f (is_granted c p e) in
    let z = subst (λ (a : Asked). (joined (bytes_read (reads_in c.given (request a (length c.buffer)))) ≡ m) × (InOrder 0 (reads_in c.given (request a (length c.buffer))))) (sym f)
    (whole c.given m (length c.buffer) a, ordered c.given (request (message m) (length c.buffer)) a refl) in
    (z.0, z.1, q)

-- an empty pack
empty_in : (c : Call) → Promised c → c.answer.number ≡ 0 → c.asked ≡ pack [] → (c.left ≡ c.given) × (c.answer ≡ blank_answer 0 0) × (c.in_record ≡ 0) × (c.printer ≡ c.buffer)
unfolding reads_by reads_each bodies_of records_after taken_by counted_all copies written joined record_from record_of
empty_in c p e f =
    let q : Request = request (pack []) (length c.buffer) in
    let fq : request_of c ≡ q = ap (λ (a : Asked). request a (length c.buffer)) f in
    let a : granted c.given q ≡ true = subst (λ (q : Request). granted c.given q ≡ true) fq (is_granted c p e) in (
      left_is c p ∙ ap (served c.given) fq ∙ leaves_none c.given [] (length c.buffer) a refl,
      p.answer_is ∙ ap (answer_of c.given) fq ∙ granted_answer c.given q a,
      p.record_is ∙ ap (record_of c.given) fq ∙ ap (λ (b : Bool). cond (true && b) 0 0) a,
      p.printer_is ∙ ap (λ (ys : List ℕ). written ys c.buffer) (ap (printed_by c.given) fq ∙ granted_prints c.given q a),
    )

line_in : (c : Call) → Promised c → c.answer.number ≡ 0 → LineIs c.given c
line_in c p e =
    let z = line_after c.given c.asked (length c.buffer) (is_granted c p e) in
    (ap held_in p.settings_are ∙ z.0, ap (λ (s : Settings). s.count) p.settings_are ∙ z.1)

-- both starts are good
pub start_resumed : (t : Terminal) → Start t → Resumed t
start_resumed t (opening o) = opening-resumed t o
start_resumed t (resumed r) = r

module _ (t : Terminal) (cs : List Call) (made : Made t cs) where
  exact : (n : ℕ) → left t (take n cs) ≡ stood t cs n
  exact n = exact_all (made_take made n)

  by_items : (n : ℕ) → (left t (take n cs)).state ≡ before t cs (length (events_over t (requests (take n cs))))
  by_items n =
      ap (λ (x : Terminal). x.state) (exact n) ∙ state_stands t (requests (take n cs))
      ∙ ap (λ (es : List Event). apply_all es t.state)
      (sym (subst (λ (qs : List Request). take (length (events_over t qs)) (events_over t (requests cs)) ≡ events_over t qs) (sym (map-take cs n)) (front_items t (requests cs) n)))

  module _ (start : Start t) where
    good : Good t.state
    good = let r = start_resumed t start in record { sound = r.sound; cells_are = r.cells_are; layer_are = r.layer_is; dots_are = r.dots_are }

    good_left : (n : ℕ) → Good (left t (take n cs)).state
    good_left n = subst Good (sym (by_items n)) (good_at (events_over t (requests cs)) t.state good (legal_over t (requests cs)) (length (events_over t (requests (take n cs)))))

    number : (n : ℕ) (c : Call) → Nth n cs c → c.answer.number ≡ first_of (own_reasons (stood t cs n).state.settings c.asked)
    number n c h =
        let g : Good (stood t cs n).state = subst (λ (x : Terminal). Good x.state) (exact n) (good_left n) in
        each (λ x c. c.answer.number ≡ number_of x (request_of c)) number_is made n c h
        ∙ number_good (stood t cs n) (request_of c) g (sized_stands (requests (take n cs)) t (start_resumed t start).shown_is)

    -- what event n of the list does
    step : (n : ℕ) → n < item_count t cs → Obeyed (before t cs n) (before t cs (suc n)) (sets_mode (event t cs n)) (StillEvent (event t cs n) (before t cs n))
    step = event_at (events_over t (requests cs)) t.state good (legal_over t (requests cs))

    stretch : (i j k : ℕ) → i ≤ j → j ≤ item_count t cs → Stretch t cs i j k → (o : ℕ) → o < 2 → (o ≡ k → ⊥) → Spared o (before t cs i) (before t cs j)
    stretch i j k u v f o ho e =
        chained (Spared o) (spared_refl o) (λ a b c. spared_trans) (before t cs) i j u
        (λ n p q. (step n (omega arith)).other (f n p q).1 o ho (λ z. e (z ∙ (f n p q).0)))

    windows : (i j k : ℕ) → i ≤ j → j ≤ item_count t cs → Still t cs i j k → (o : ℕ) → o < 2 → (o ≡ k → ⊥) → SameScreen o (before t cs i) (before t cs j)
    windows i j k u v f o ho e =
        chained (SameScreen o) (same_refl o) (λ a b c. same_trans) (before t cs) i j u
        (λ n p q. (step n (omega arith)).window (f n p q).1 o ho (λ z. e (z ∙ (f n p q).0)))

  demand : Demand3 t cs
  demand = record {
    exact = λ n h. exact n;
    answers = each (λ x c. c.answer ≡ answer_of x (request_of c)) (λ c p. p.answer_is) made;
    prints = each (λ x c. c.printer ≡ written (printed_by x (request_of c)) c.buffer) (λ c p. p.printer_is) made;
    printed = each (λ x c. (length (printed_by x (request_of c)) ≡ c.answer.printed) × (length c.printer ≡ length c.buffer)) printed_in made;
    numbers = each (λ x c. c.answer.number ≡ number_of x (request_of c)) number_is made;
    refused = each (λ x c. (c.answer.number ≡ 0 → ⊥) → (c.left ≡ c.given) × (c.answer ≡ blank_answer c.answer.number 0) × (c.printer ≡ c.buffer)) unaltered made;
    refusals = λ n h e. at_next (events_over t (requests cs)) t.state n h ∙ refused_nothing (event t cs n) (before t cs n) e;
    records = each (λ x c. c.in_record ≡ record_of x (request_of c)) (λ c p. p.record_is) made;
    once = each (λ x c. c.answer.number ≡ 0 → packed? c.asked ≡ false → Once x c) once_in made;
    once_each = each (λ x c. c.answer.number ≡ 0 → (b : List ℕ) → c.asked ≡ pack b → (InBodies (bodies_of b) (reads_in x (request_of c))) × (c.answer.taken ≡ length (joined (bodies_of b)))) each_in made;
    whole = each (λ x c. c.answer.number ≡ 0 → (m : List ℕ) → c.asked ≡ message m → Whole x c m) whole_in made;
    line = each (λ x c. c.answer.number ≡ 0 → LineIs x c) line_in made;
    by_items = λ n h. by_items n;
    key_sets = each (λ x c. c.answer.number ≡ 0 → (k : ℕ) (y : List ℕ) → c.asked ≡ key_text k y
        → (c.left ≡ record { state = texted k y c.given.state; shown = c.given.shown }) × (reads_in x (request_of c) ≡ []) × (c.answer ≡ blank_answer 0 0) × (c.printer ≡ c.buffer)) key_in made;
    packs = λ n h. (exact n ∙ sym (stands_unpacked (requests (take n cs)) t), sym (events_unpacked (requests (take n cs)) t));
    empty_pack = each (λ x c. c.answer.number ≡ 0 → c.asked ≡ pack [] → (c.left ≡ c.given) × (c.answer ≡ blank_answer 0 0) × (c.in_record ≡ 0) × (c.printer ≡ c.buffer)) empty_in made;
    short_message = each (λ x c. c.answer.number ≡ 0 → (m : List ℕ) → c.asked ≡ short m → Quick c m) short_in made;
    opened_shown = λ o n h f. shown_left made n f (opening_shown t o);
    message_shown = λ i c h e f n l u s. from-painting NoKey Shown no_key_tail (λ t cs m n. shown_left m n) made i c h e f n l s;
    opened_rows = λ o n h. above_left made n (shown_above t (opening_shown t o));
    message_rows = λ i c h e f n l u. from-painting (λ cs i n. Unit {0}) (ShownIn above_row8) (λ c cs i n s. s) (λ t cs m n s h. above_left m n (shown_above t h)) made i c h e f n l tt;
    shown = λ places h n l. subst (ShownIn (claimed t (requests (take n cs)) places)) (sym (exact n)) (shown_stands (requests (take n cs)) t places h);
    dots_stay = λ n h d e. ap (λ (x : State). x.dots) (at_next (events_over t (requests cs)) t.state n h) ∙ event_dots (before t cs n) d (event t cs n) e;
    numbered = number;
    standing = λ start n h. standing_of (good_at (events_over t (requests cs)) t.state (good start) (legal_over t (requests cs)) n);
    left_standing = λ start n h. (
      standing_of (good_left start n),
      ap (λ (x : Terminal). length x.shown) (exact n) ∙ sized_stands (requests (take n cs)) t (start_resumed t start).shown_is,
    );
    tracks = λ start. window_at_lem (events_over t (requests cs)) t.state (good start) (legal_over t (requests cs));
    stretch = λ start i j k u v f o ho e. unchanged (stretch start i j k u v f o ho e);
    windows = λ start i j k u v f o ho e. same_window (windows start i j k u v f o ho e);
  }

pub demand3 : Demand
demand3 t cs made = demand t cs made
