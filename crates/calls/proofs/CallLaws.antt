-- The calls: the number and what is accepted, what the promise says of the whole terminal, the shown screen, the opening.
use mathlib.Core.Path.{◌∙◌, ◌≡◌, ap, refl, subst, sym}
use Prim.Native.Nat.{◌%◌, ◌*◌, ◌+◌, ◌-◌, ◌/◌, ◌<◌, ◌≤◌, suc, zero, ℕ}
use native.Mathlib.Nat.{zero-add}
use native.Mathlib.Omega.{arith}
use mathlib.Core.Bool.{Bool, ◌&&◌, ◌||◌, cond, false, true}
use mathlib.Core.List.{List, [], ◌∷◌}
use lib.ListN.{get_or, length, length-replicate, replicate}
use lib.Dec.{eqb}
use borrow.Author.Tests.{eq-eqb, eqb-true, le-leb, leb-true}
use Rattle.model.specs.declared.Answer.{Answer}
use Rattle.model.specs.declared.Item.{Item}
use Rattle.model.specs.declared.Item.TheVariants.{Control, Printed, Refused, Sequence}
use Rattle.model.specs.State.{State, opened, opened_keys, opened_settings}
use Rattle.model.specs.Checks.{Passes, in_ranges?, member, passes, range}
use Rattle.model.specs.Screens.{base, cell_at, columns_of, height, line_at, lines_of, place_of, screens, text_rows}
use Rattle.model.specs.Line.{held_in, limit, padded}
use Rattle.model.specs.Sound.{Good, Inside, Sound, array_ranges, key_ranges, mode0, plain_ranges, alone_ranges}
use Rattle.model.specs.Picture.{painting, picture, picture_at}
use Rattle.model.specs.Reading.{Read, remaining, uncut}
use Rattle.model.specs.Records.{uncut?}
use Rattle.calls.specs.Packs.{reads_each, record_from}
use Rattle.calls.specs.Repaint.{painted?, repainted, shown_behind}
use Rattle.model.specs.Items.{Event, apply_all, blank_answer, copies, counted, counted_all, events_of, reads_of}
use Rattle.calls.specs.Calls.{Asked, Call, Promised, Reason, Request, Terminal, granted, all_free, answer_of, beside_items, closing, countable, events_by, events_in, first_of, key_text, known_in, message, none_waits, number_of, own_reasons, pack, packable, packed?, packed_by, paints?, piece, printed_by, short, short?, reads_by, reads_in, reason, reasons, record_of, request, request_of, served, sendable, sendable_in, shown_after, sized, sound_in, taken_by, taken_in, terminal}
use Rattle.model.specs.Keyable.{keyable}
use Rattle.calls.specs.Opening.{opened_by, opened_terminal, opening_number, ruled, unopened}
use Rattle.calls.specs.Claims.{Shown}
use Rattle.calls.specs.Lists.{Opening, Resumed}
use Rattle.model.proofs.Tests.{and_both, and_left, and_right, cond_at, differ, elim_at, ranges-true}
use Rattle.model.proofs.ByteLaws.{get_or_list_from, length_list_from}
use Rattle.model.proofs.LineLaws.{sound_padded, sound_piece, sound_quiet, true_line}
use Rattle.model.proofs.MarkLaws.{none_marked}
use Rattle.model.proofs.SoundLaws.{sound_true, true_sound}
use Rattle.model.proofs.Events.{AllLegal, events_append, legal_append, legal_reads}
use Rattle.model.proofs.Gathering.{none_unfinished}
use Rattle.calls.proofs.Printing.{printed_reads, reads_granted, reads_either}
use Rattle.calls.proofs.ByRows.{below, by_all_rows, overlaid, row, rows_from}
use Rattle.calls.proofs.PaintLaws.{painted-by_rows}

-- a call's number is 0 exactly when it is accepted
free_number : (rs : List Reason) → all_free rs ≡ true → first_of rs ≡ 0
unfolding all_free first_of
free_number [] e = refl
free_number (r ∷ rs) e =
    elim_at (λ (n : ℕ). n ≡ 0) r.free (first_of rs) r.number (λ f. free_number rs (and_right r.free (all_free rs) e))
    (λ f. absurd (differ (sym (and_left r.free (all_free rs) e) ∙ f)))

-- where no reason applies, reason i, from 0, does not
free_at : (rs : List Reason) (i : ℕ) → all_free rs ≡ true → (get_or rs i (reason 0 true)).free ≡ true
unfolding all_free
free_at [] i e = refl
free_at (r ∷ rs) zero e = and_left r.free (all_free rs) e
free_at (r ∷ rs) (suc i) e = free_at rs i (and_right r.free (all_free rs) e)

pub number_granted : (t : Terminal) (q : Request) → granted t q ≡ true → number_of t q ≡ 0
unfolding granted number_of
number_granted t q e = free_number (reasons t q.asked) e

-- no reason's number is 0
abbrev Numbered : List Reason → Type 0
Numbered [] = Unit {0}
Numbered (r ∷ rs) = (1 ≤ r.number) × Numbered rs

number_free : (rs : List Reason) → Numbered rs → first_of rs ≡ 0 → all_free rs ≡ true
unfolding all_free first_of
number_free [] p e = refl
number_free (r ∷ rs) p e = go r.free e (number_free rs p.1)
  where
    go : (b : Bool) → ◌≡◌ {A = ℕ} (elim b [ true ↦ first_of rs | false ↦ r.number ]) 0 → (first_of rs ≡ 0 → all_free rs ≡ true) → (b && all_free rs) ≡ true
    go true e f = f e
    go false e f = absurd (omega (arith, p.0, e))

numbered_reasons : (t : Terminal) (a : Asked) → Numbered (reasons t a)
unfolding reasons
numbered_reasons t (message m) = (omega arith, (omega arith, (omega arith, (omega arith, tt))))
numbered_reasons t (piece m) = (omega arith, (omega arith, (omega arith, (omega arith, tt))))
numbered_reasons t closing = (omega arith, (omega arith, tt))
numbered_reasons t (key_text k x) = (omega arith, (omega arith, tt))
numbered_reasons t (short m) = (omega arith, (omega arith, (omega arith, (omega arith, tt))))
numbered_reasons t (pack p) = (omega arith, (omega arith, (omega arith, (omega arith, (omega arith, (omega arith, (omega arith, tt)))))))

pub granted_number : (t : Terminal) (q : Request) → number_of t q ≡ 0 → granted t q ≡ true
unfolding granted number_of
granted_number t q e = number_free (reasons t q.asked) (numbered_reasons t q.asked) e

pub refused_number : (t : Terminal) (q : Request) → (number_of t q ≡ 0 → ⊥) → granted t q ≡ false
refused_number t q n = go (granted t q) refl
  where
    go : (b : Bool) → granted t q ≡ b → granted t q ≡ false
    go true e = absurd (n (number_granted t q e))
    go false e = e

-- of a refused call: "the settings given, zero counts, its number, and every store unaltered"
pub refused_leaves : (t : Terminal) (q : Request) → granted t q ≡ false → served t q ≡ t
unfolding served events_in shown_after apply_all
refused_leaves t q e =
    ap (λ (b : Bool). let st = apply_all (cond b (events_by t q) []) t.state in terminal st.settings st.cells st.layer st.dots (cond (b && paints? q.asked) (painting st) (cond (b && short? q.asked) (shown_behind (reads_by t q) t.state st t.shown) t.shown))) e

pub refused_answer : (t : Terminal) (q : Request) → granted t q ≡ false → answer_of t q ≡ blank_answer (number_of t q) 0
unfolding answer_of reads_in taken_in counted_all
refused_answer t q e = ap (λ (b : Bool). counted_all (cond b (reads_by t q) []) (blank_answer (number_of t q) (cond b (taken_by q.asked) 0))) e

pub refused_prints : (t : Terminal) (q : Request) → granted t q ≡ false → printed_by t q ≡ []
unfolding printed_by events_in copies
refused_prints t q e = ap (λ (b : Bool). copies (cond b (events_by t q) []) t.state) e

-- P6: and no record; nor has one that is no pack
pub refused_record : (t : Terminal) (q : Request) → granted t q ≡ false → record_of t q ≡ 0
unfolding record_of
refused_record t q e = ap (λ (b : Bool). cond (packed? q.asked && b) (record_from 1 (packed_by q.asked) t.state q.room) 0) e ∙ go (packed? q.asked)
  where
    go : (b : Bool) → cond (b && false) (record_from 1 (packed_by q.asked) t.state q.room) 0 ≡ 0
    go true = refl
    go false = refl

pub plain_record : (t : Terminal) (q : Request) → packed? q.asked ≡ false → record_of t q ≡ 0
unfolding record_of
plain_record t q e = ap (λ (b : Bool). cond (b && granted t q) (record_from 1 (packed_by q.asked) t.state q.room) 0) e

-- of an accepted call
unfoldable pub after : Terminal → Request → Terminal
after t q =
    let st = apply_all (events_by t q) t.state in
    record { state = st; shown = cond (paints? q.asked) (painting st) (cond (short? q.asked) (shown_behind (reads_by t q) t.state st t.shown) t.shown) }

pub granted_leaves : (t : Terminal) (q : Request) → granted t q ≡ true → served t q ≡ after t q
unfolding served events_in shown_after after
granted_leaves t q e =
    ap (λ (b : Bool). let st = apply_all (cond b (events_by t q) []) t.state in terminal st.settings st.cells st.layer st.dots (cond (b && paints? q.asked) (painting st) (cond (b && short? q.asked) (shown_behind (reads_by t q) t.state st t.shown) t.shown))) e

pub granted-painted : (t : Terminal) (q : Request) → granted t q ≡ true → paints? q.asked ≡ true → let st = apply_all (events_by t q) t.state in served t q ≡ record { state = st; shown = painting st }
unfolding after
granted-painted t q e f = granted_leaves t q e ∙ (λ i. let st = apply_all (events_by t q) t.state in record { state = st; shown = cond (f i) (painting st) (cond (short? q.asked) (shown_behind (reads_by t q) t.state st t.shown) t.shown) })

pub granted_answer : (t : Terminal) (q : Request) → granted t q ≡ true → answer_of t q ≡ counted_all (reads_by t q) (blank_answer 0 (taken_by q.asked))
unfolding answer_of reads_in taken_in
granted_answer t q e = (λ i. counted_all (cond (e i) (reads_by t q) []) (blank_answer (number_granted t q e i) (cond (e i) (taken_by q.asked) 0)))

pub granted_prints : (t : Terminal) (q : Request) → granted t q ≡ true → printed_by t q ≡ copies (events_of (reads_by t q)) t.state
granted_prints t q e = printed_reads t q ∙ ap (λ (rs : List Read). copies (events_of rs) t.state) (reads_granted t q e)

-- counting leaves the number
counted_number : (i : Item) (at n : ℕ) (a : Answer) → (counted i at n a).number ≡ a.number
counted_number (Printed c) at n a = refl
counted_number (Control c) at n a = refl
counted_number (Sequence q) at n a = refl
counted_number (Refused k p) at n a = refl

all_number : (rs : List Read) (a : Answer) → (counted_all rs a).number ≡ a.number
unfolding counted_all
all_number [] a = refl
all_number (r ∷ rs) a = all_number rs _ ∙ counted_number r.item r.at r.prints a

pub answer_number : (t : Terminal) (q : Request) → (answer_of t q).number ≡ number_of t q
unfolding answer_of
answer_number t q = all_number (reads_in t q) (blank_answer (number_of t q) (taken_in t q))

-- the promise is an equation on the whole terminal
pub left_is : (c : Call) → Promised c → c.left ≡ served c.given (request_of c)
left_is c p = λ i. record { state = record { settings = p.settings_are i; cells = p.cells_are i; layer = p.layer_is i; dots = p.dots_are i }; shown = p.shown_is i }

pub state_served : (t : Terminal) (q : Request) → (served t q).state ≡ apply_all (events_in t q) t.state
unfolding served
state_served t q = refl

-- an accepted call was given sound settings, and, but for a key call, stores of their sizes; a piece is within the limit, a message is read
-- while none waits, and a key and its text are what they must be
sound_in_lem : (t : Terminal) (q : Request) → granted t q ≡ true → (paints? q.asked ≡ true → sized t ≡ true) × (sound_in t ≡ true)
unfolding granted reasons
sound_in_lem t q e = go q.asked e
  where
    go : (a : Asked) → all_free (reasons t a) ≡ true → (paints? a ≡ true → sized t ≡ true) × (sound_in t ≡ true)
    go (message m) e = (λ h. free_at (reasons t (message m)) 0 e, free_at (reasons t (message m)) 2 e)
    go (piece m) e = (λ h. free_at (reasons t (piece m)) 0 e, free_at (reasons t (piece m)) 2 e)
    go closing e = (λ h. free_at (reasons t closing) 0 e, free_at (reasons t closing) 1 e)
    go (key_text k x) e = (λ h. absurd (differ (sym h)), free_at (reasons t (key_text k x)) 0 e)
    go (pack p) e = (λ h. free_at (reasons t (pack p)) 0 e, free_at (reasons t (pack p)) 5 e)
    go (short m) e = (λ h. absurd (differ (sym h)), free_at (reasons t (short m)) 2 e)

pub granted_sized : (t : Terminal) (q : Request) → granted t q ≡ true → paints? q.asked ≡ true → sized t ≡ true
granted_sized t q e = (sound_in_lem t q e).0

pub granted_sound : (t : Terminal) (q : Request) → granted t q ≡ true → Sound t.state.settings
unfolding sound_in
granted_sound t q e = sound_true t.state.settings (sound_in_lem t q e).1

pub granted_counts : (t : Terminal) (m : List ℕ) (room : ℕ) → granted t (request (piece m) room) ≡ true → t.state.settings.count + length m ≤ limit
unfolding granted reasons countable
granted_counts t m room e = leb-true _ _ (free_at (reasons t (piece m)) 3 e)

pub granted_quiet : (t : Terminal) (m : List ℕ) (room : ℕ) → granted t (request (message m) room) ≡ true → t.state.settings.held ≡ 0
unfolding granted reasons none_waits
granted_quiet t m room e = eqb-true _ _ (free_at (reasons t (message m)) 3 e)

pub granted-keyable : (t : Terminal) (k : ℕ) (x : List ℕ) (room : ℕ) → granted t (request (key_text k x) room) ≡ true → keyable k x ≡ true
unfolding granted reasons
granted-keyable t k x room e = free_at (reasons t (key_text k x)) 1 e

-- P6: a pack, that all its messages are short, and that none waits
pub granted-pack : (t : Terminal) (p : List ℕ) (room : ℕ) → granted t (request (pack p) room) ≡ true → (sized t ≡ true) × (sendable_in p ≡ true) × (t.state.settings.held ≡ 0)
unfolding granted reasons none_waits
granted-pack t p room e = let rs = reasons t (pack p) in (free_at rs 0 e, free_at rs 4 e, eqb-true _ _ (free_at rs 6 e))

-- P12: a short message, the same
pub granted_short : (t : Terminal) (m : List ℕ) (room : ℕ) → granted t (request (short m) room) ≡ true → (sized t ≡ true) × (length m ≤ 4096) × (t.state.settings.held ≡ 0)
unfolding granted reasons none_waits
granted_short t m room e = let rs = reasons t (short m) in (free_at rs 0 e, leb-true _ _ (free_at rs 1 e), eqb-true _ _ (free_at rs 3 e))

-- and a message that is short is accepted while none waits
pub message_granted : (t : Terminal) (m : List ℕ) (room : ℕ) → sized t ≡ true → Sound t.state.settings → t.state.settings.held ≡ 0 → length m ≤ 4096 → granted t (request (message m) room) ≡ true
unfolding granted reasons all_free sound_in none_waits
message_granted t m room z s q l =
    and_both (sized t) _ z (and_both (sendable m) _ (le-leb _ _ l) (and_both (sound_in t) _ (true_sound t.state.settings s) (and_both (eqb t.state.settings.held 0) true (eq-eqb _ _ q) refl)))

-- what a call leaves of the line is sound, and a text that it sets has its place
legal_moved : (t : Terminal) (a : Asked) (room : ℕ) → granted t (request a room) ≡ true → (st : State) → AllLegal (beside_items t.state.settings a) st
unfolding beside_items
legal_moved t (message m) room e st = tt
legal_moved t (piece m) room e st =
    let s = t.state.settings in
    let r : List ℕ = remaining (held_in s) m in
    (true_line (padded r) (length r) (s.count + length m) (sound_piece s.waiting s.held s.count (granted_sound t (request (piece m) room) e).line m (granted_counts t m room e)), tt)
legal_moved t closing room e st = (true_line (padded []) 0 0 (sound_padded [] 0 none_unfinished (omega arith) (omega arith)), tt)
legal_moved t (key_text k x) room e st = (granted-keyable t k x room e, tt)
legal_moved t (pack p) room e st = tt
legal_moved t (short m) room e st = tt

-- what happens in a call is legal
legal_each : (ms : List (List ℕ)) (st : State) (room : ℕ) → AllLegal (events_of (reads_each ms st room)) st
unfolding reads_each
legal_each [] st room = tt
legal_each (m ∷ ms) st room =
    let rs : List Read = reads_of (uncut m) 0 st room in
    subst (λ (es : List Event). AllLegal es st) (sym (events_append rs _)) (legal_append (events_of rs) _ st (legal_reads (uncut m) 0 st room) (legal_each ms (apply_all (events_of rs) st) _))

pub legal_in : (t : Terminal) (q : Request) → AllLegal (events_in t q) t.state
unfolding events_in events_by
legal_in t q = cond_at (λ (es : List Event). AllLegal es t.state) (granted t q) _ _
    (λ e. legal_append (events_of (reads_by t q)) (beside_items t.state.settings q.asked) t.state
    (reads_either (λ rs. AllLegal (events_of rs) t.state) t q (λ ms. legal_each ms t.state q.room) (λ bss at. legal_reads bss at t.state q.room))
    (legal_moved t q.asked q.room e (apply_all (events_of (reads_by t q)) t.state))) (λ e. tt)

-- the shown screen: a painted one shows the picture
shown_painting : (st : State) → Shown (record { state = st; shown = painting st })
unfolding painting picture
shown_painting st = record { places = length_list_from (picture st) 0 640; each = at }
  where
    at : (r c : ℕ) → 1 ≤ r → r ≤ 8 → 1 ≤ c → c ≤ 80 → get_or (painting st) (80 * (r - 1) + (c - 1)) 0 ≡ picture_at st r c
    at r c p q u v =
        let i : ℕ = 80 * (r - 1) + (c - 1) in
        let e₁ : i / 80 + 1 ≡ r = omega arith in
        let e₂ : i % 80 + 1 ≡ c = omega arith in
        get_or_list_from (picture st) 640 0 i (omega arith) ∙ ap (picture st) (zero-add i) ∙ (λ j. picture_at st (e₁ j) (e₂ j))

-- an accepted call that paints paints all of it
pub shown_granted : (t : Terminal) (q : Request) → granted t q ≡ true → paints? q.asked ≡ true → Shown (served t q)
shown_granted t q e f = subst Shown (sym (granted-painted t q e f)) (shown_painting _)

-- a short message leaves a shown screen of its size (P12)
length-repainted : (wide : Bool) (places : List ℕ) (st : State) (shown : List ℕ) → length (repainted wide places st shown) ≡ 640
unfolding repainted
length-repainted wide places st shown = length_list_from (λ p. cond (painted? wide places p) (picture st p) (get_or shown p 0)) 0 640

pub sized_served : (t : Terminal) (q : Request) → length t.shown ≡ 640 → length (served t q).shown ≡ 640
unfolding served painting shown_after
sized_served t q e = cond_at (λ (l : List ℕ). length l ≡ 640) (granted t q && paints? q.asked) _ _ (λ a. length_list_from (picture (served t q).state) 0 640)
    (λ a. cond_at (λ (l : List ℕ). length l ≡ 640) (granted t q && short? q.asked) _ t.shown (λ a. length-repainted _ _ _ t.shown) (λ a. e))

-- which calls a good terminal accepts
pub sized_good : (t : Terminal) → Good t.state → length t.shown ≡ 640 → sized t ≡ true
unfolding sized
sized_good t g e = and_both (eqb (length t.state.cells) 3840) _ (eq-eqb _ _ g.cells_are) (and_both (eqb (length t.state.layer) 1280) _ (eq-eqb _ _ g.layer_are) (and_both (eqb (length t.state.dots) 3840) (eqb (length t.shown) 640) (eq-eqb _ _ g.dots_are) (eq-eqb _ _ e)))

pub sizes : (t : Terminal) → sized t ≡ true → Sound t.state.settings → (Good t.state) × (length t.shown ≡ 640)
unfolding sized
sizes t e h =
    let e₂ = and_right (eqb (length t.state.cells) 3840) _ e in
    let e₃ = and_right (eqb (length t.state.layer) 1280) _ e₂ in (
      record { sound = h; cells_are = eqb-true _ _ (and_left _ _ e); layer_are = eqb-true _ _ (and_left _ _ e₂); dots_are = eqb-true _ _ (and_left _ _ e₃) },
      eqb-true _ _ (and_right (eqb (length t.state.dots) 3840) _ e₃),
    )

pub sound_good : (t : Terminal) → Good t.state → sound_in t ≡ true
unfolding sound_in
sound_good t g = true_sound t.state.settings g.sound

pub number_good : (t : Terminal) (q : Request) → Good t.state → length t.shown ≡ 640 → number_of t q ≡ first_of (own_reasons t.state.settings q.asked)
unfolding number_of reasons own_reasons first_of
number_good t q g e = go q.asked
  where
    go : (a : Asked) → first_of (reasons t a) ≡ first_of (own_reasons t.state.settings a)
    go (message m) = λ i. first_of (reason 1 (sized_good t g e i) ∷ reason 2 (sendable m) ∷ reason 3 (sound_good t g i) ∷ reason 16 (none_waits t.state.settings) ∷ [])
    go (piece m) = λ i. first_of (reason 1 (sized_good t g e i) ∷ reason 2 (sendable m) ∷ reason 3 (sound_good t g i) ∷ reason 15 (countable t.state.settings m) ∷ [])
    go closing = λ i. first_of (reason 1 (sized_good t g e i) ∷ reason 3 (sound_good t g i) ∷ [])
    go (key_text k x) = λ i. first_of (reason 3 (sound_good t g i) ∷ reason 17 (keyable k x) ∷ [])
    go (short m) = λ i. first_of (reason 1 (sized_good t g e i) ∷ reason 2 (sendable m) ∷ reason 3 (sound_good t g i) ∷ reason 16 (none_waits t.state.settings) ∷ [])
    go (pack p) = λ i. first_of (reason 1 (sized_good t g e i) ∷ reason 19 (packable p) ∷ reason 20 (uncut? p) ∷ reason 21 (known_in p) ∷ reason 2 (sendable_in p) ∷ reason 3 (sound_good t g i) ∷ reason 16 (none_waits t.state.settings) ∷ [])

-- what an accepted opening leaves, with either rule: blank, and the picture is blank
ruled-range : (rule : ℕ) → ruled rule ≡ true → Passes (range 1 rule 2)
unfolding ruled
ruled-range rule = go (eqb rule 1) refl (eqb rule 2) refl
  where
    go : (x : Bool) → eqb rule 1 ≡ x → (y : Bool) → eqb rule 2 ≡ y → (x || y) ≡ true → Passes (range 1 rule 2)
    go true e y f h = omega (arith, eqb-true rule 1 e)
    go false e true f h = omega (arith, eqb-true rule 2 f)
    go false e false f h = absurd (differ (sym h))

module _ (rule : ℕ) where
  opened-blank : replicate 640 32 ≡ painting (opened rule)
  unfolding by_all_rows rows_from row below overlaid text_rows cell_at line_at base columns_of place_of
  opened-blank = let e : replicate 640 32 ≡ by_all_rows (opened rule) = refl in e ∙ sym (painted-by_rows (opened rule))

  shown_opened : Shown (opened_terminal rule)
  shown_opened = subst Shown (λ i. record { state = opened rule; shown = sym opened-blank i }) (shown_painting (opened rule))

  pub resumed-opened : ruled rule ≡ true → Resumed (opened_terminal rule)
  unfolding lines_of columns_of height text_rows place_of in_ranges? passes member key_ranges plain_ranges array_ranges screens alone_ranges
  resumed-opened e = record {
    sound = record {
      arrays = ranges-true (array_ranges (opened_settings rule)) refl;
      shaped = mode0 refl refl refl (omega arith) (omega arith) (omega arith);
      selected = omega arith;
      inside = both;
      step_low = omega arith;
      step_high = omega arith;
      plain = (omega arith, (omega arith, (omega arith, (omega arith, (ruled-range rule e, ranges-true (key_ranges 0 opened_keys) refl)))));
      line = sound_quiet;
      marked = λ k. none_marked (lines_of (opened_settings rule) k) k;
      alone = tt;
    };
    cells_are = length-replicate {A = ℕ} 3840 32;
    layer_is = length-replicate {A = ℕ} 1280 0;
    dots_are = length-replicate {A = ℕ} 3840 0;
    shown_is = length-replicate {A = ℕ} 640 32;
  }
    where
      both : (k : ℕ) → k < 2 → Inside (opened_settings rule) k
      both zero l = omega arith
      both (suc zero) l = omega arith
      both (suc (suc k)) l = absurd (omega arith)

module _ (t : Terminal) (o : Opening t) where
  given : Terminal
  given = unopened o.cells o.layer o.dots o.shown

  -- an opening that keeps its promise and returns 0 leaves the opened terminal, its rule 1 or 2
  opening_leaves : t ≡ opened_terminal o.rule
  unfolding opened_by opening_number given
  opening_leaves = (λ i. terminal (o.promised.settings_are i) (o.promised.cells_are i) (o.promised.layer_is i) (o.promised.dots_are i) (o.promised.shown_is i)) ∙ go (sized given) (ruled o.rule) o.promised.number_is
    where
      go : (b c : Bool) → ◌≡◌ {A = ℕ} 0 (cond b (cond c 0 23) 1)
          → let u = cond (b && c) (opened_terminal o.rule) given in terminal u.state.settings u.state.cells u.state.layer u.state.dots u.shown ≡ opened_terminal o.rule
      go true true e = refl
      go true false e = absurd (omega arith)
      go false c e = absurd (omega arith)

  opening-ruled : ruled o.rule ≡ true
  unfolding opening_number given
  opening-ruled = go (sized given) (ruled o.rule) o.promised.number_is
    where
      go : (b c : Bool) → ◌≡◌ {A = ℕ} 0 (cond b (cond c 0 23) 1) → c ≡ true
      go true true e = refl
      go true false e = absurd (omega arith)
      go false c e = absurd (omega arith)

  pub opening_shown : Shown t
  opening_shown = subst Shown (sym opening_leaves) (shown_opened o.rule)

  pub opening-resumed : Resumed t
  opening-resumed = subst Resumed (sym opening_leaves) (resumed-opened o.rule opening-ruled)

-- a call that kept its promise: its number, and that 0 says it was accepted
pub number_is : (c : Call) → Promised c → c.answer.number ≡ number_of c.given (request_of c)
number_is c p = ap (λ (a : Answer). a.number) p.answer_is ∙ answer_number c.given (request_of c)

pub is_granted : (c : Call) → Promised c → c.answer.number ≡ 0 → granted c.given (request_of c) ≡ true
is_granted c p e = granted_number c.given (request_of c) (sym (number_is c p) ∙ e)
