-- P12: an accepted short message is the message but for the shown screen; and what it leaves of the places, from `untouched` (Repainting). So one that keeps its promise is all that `Quick` says.
use mathlib.Core.Path.{◌∙◌, ◌≡◌, ap, refl, subst, sym}
use Prim.Native.Nat.{◌%◌, ◌*◌, ◌+◌, ◌-◌, ◌/◌, ◌<◌, ◌≤◌, ℕ}
use native.Mathlib.Nat.{zero-add}
use native.Mathlib.Omega.{arith}
use mathlib.Core.Bool.{Bool, ◌||◌, cond, false, not, true}
use mathlib.Core.List.{List, [], ◌∷◌, append-nil}
use lib.ListN.{get_or, length}
use lib.Dec.{eqb, leb}
use borrow.Author.Tests.{eq-eqb, eqb-true, le-leb, leb-false, leb-true, lt-leb, lt-ltb}
use Rattle.model.specs.declared.Item.{Item}
use Rattle.model.specs.declared.Item.TheVariants.{Control, Printed, Refused, Sequence}
use Rattle.model.specs.State.{State}
use Rattle.model.specs.Screens.{here, place_of}
use Rattle.model.specs.Checks.{member}
use Rattle.model.specs.Sound.{Good}
use Rattle.model.specs.Picture.{painting, picture}
use Rattle.model.specs.Reading.{Read, byte_of, uncut}
use Rattle.model.specs.Rules.{apply_item}
use Rattle.model.specs.Items.{Event, apply_all, events_of, happened, obeyed_by, reads_of}
use Rattle.calls.specs.Repaint.{calm?, moves_top?, painted?, places_in, repainted, wide?, wide_in}
use Rattle.calls.specs.Calls.{Request, Terminal, granted, answer_of, beside_items, events_by, events_in, item_bytes, message, number_of, printed_by, short, reads_by, reads_in, reasons, request, served, start_of, taken_by, taken_in, Asked, Call, Promised, request_of}
use Rattle.calls.specs.Claims.{Plain, PlaceAfter, ShownIn, above_row8, painted, plain_item?, unaltered, Quick}
use Rattle.model.proofs.Tests.{differ}
use Rattle.model.proofs.ByteLaws.{get_or_list_from, same_list_from}
use Rattle.model.proofs.Steps.{kept_control, kept_printed}
use Rattle.model.proofs.ItemLaws.{obeyed_item}
use Rattle.model.proofs.Events.{AllLegal, legal_reads}
use Rattle.calls.proofs.CallLaws.{granted_leaves, granted-painted, granted_short, granted_sound, after, sizes, left_is, is_granted}
use Rattle.calls.proofs.Repainting.{untouched}
use Rattle.model.specs.Bytes.{written}

-- a place by its number
pub was_true : (t : Terminal) → ShownIn above_row8 t → (p : ℕ) → p < 560 → get_or t.shown p 0 ≡ picture t.state p
unfolding picture
was_true t f p h =
    let e : 80 * ((p / 80 + 1) - 1) + ((p % 80 + 1) - 1) ≡ p = omega arith in
    let u : above_row8 (80 * ((p / 80 + 1) - 1) + ((p % 80 + 1) - 1)) ≡ true = ap above_row8 e ∙ lt-ltb p 560 h in
    ap (λ (n : ℕ). get_or t.shown n 0) (sym e) ∙ f (p / 80 + 1) (p % 80 + 1) (omega arith) (omega arith) (omega arith) (omega arith) u

-- where what is not painted shows the picture, all of it does
all_painted : (wide : Bool) (places : List ℕ) (st : State) (shown : List ℕ) → ((p : ℕ) → p < 640 → cond (painted? wide places p) (picture st p) (get_or shown p 0) ≡ picture st p) → repainted wide places st shown ≡ painting st
unfolding painting repainted
all_painted wide places st shown h = same_list_from (λ p. cond (painted? wide places p) (picture st p) (get_or shown p 0)) (picture st) 0 640 (λ o l u. h o (omega (arith, u)))

-- a plain item selects nothing, and is not wide where it does not lift and moves no top
plain_selected : (ms : ℕ → ℕ) (i : Item) (a : State) → Good a → plain_item? i ≡ true → (apply_item ms i a).settings.selected ≡ a.settings.selected
unfolding apply_item
plain_selected ms (Printed c) a g e = (kept_printed a g c).same_selected
plain_selected ms (Control c) a g e = (kept_control a g c).same_selected
plain_selected ms (Sequence q) a g e = absurd (differ (sym e))
plain_selected ms (Refused n p) a g e = absurd (differ (sym e))

plain_calm : (i : Item) → plain_item? i ≡ true → calm? i ≡ true
unfolding calm?
plain_calm (Printed c) e = refl
plain_calm (Control c) e = go (eqb c 12) refl
  where
    go : (b : Bool) → eqb c 12 ≡ b → not b ≡ true
    go true z = absurd (differ (sym e ∙ ap (λ (n : ℕ). eqb n 8 || eqb n 10 || eqb n 13) (eqb-true c 12 z)))
    go false z = refl
plain_calm (Sequence q) e = absurd (differ (sym e))
plain_calm (Refused n p) e = refl

-- so none of such items is wide
plain-narrow : (rs : List Read) (a : State) → Good a → AllLegal (events_of rs) a → Plain rs a → wide_in rs a ≡ false
unfolding wide_in wide? moves_top? happened
plain-narrow [] a g l h = refl
plain-narrow (r ∷ rs) a g l h =
    let b : State = obeyed_by r a in
    let sel : b.settings.selected ≡ a.settings.selected = plain_selected (byte_of r) r.item a g h.0 in
    let top : (here b).top ≡ (here a).top = h.1.1.0 b.settings.selected ∙ ap (λ (k : ℕ). (place_of a.settings k).top) sel in
    let rest = plain-narrow rs b (obeyed_item (byte_of r) r.item a g l.0).good l.1 h.1.1.1 in
    λ i. (not (plain_calm r.item h.0 i) || (h.1.0 i || not (eq-eqb (here b).top (here a).top top i))) || rest i

-- the message's own
module _ (t : Terminal) (m : List ℕ) (room : ℕ) where
  abbrev q : Request
  q = request (short m) room

  abbrev old : Request
  old = request (message m) room

  pub same_granted : granted t q ≡ granted t old
  unfolding granted reasons
  same_granted = refl

  pub same_state : (served t q).state ≡ (served t old).state
  unfolding served events_in events_by reads_by item_bytes start_of beside_items granted reasons
  same_state = refl

  pub same_answer : answer_of t q ≡ answer_of t old
  unfolding answer_of reads_in reads_by item_bytes start_of number_of taken_in taken_by granted reasons
  same_answer = refl

  pub same_prints : printed_by t q ≡ printed_by t old
  unfolding printed_by events_in events_by reads_by item_bytes start_of beside_items granted reasons
  same_prints = refl

  -- its items
  abbrev rs : List Read
  rs = reads_of (uncut m) 0 t.state room

  module _ (e : granted t q ≡ true) where
    abbrev st : State
    st = (served t q).state

    pub short_reads : reads_in t q ≡ rs
    unfolding reads_in reads_by item_bytes start_of
    short_reads = ap (λ (b : Bool). cond b rs []) e

    abbrev wide : Bool
    wide = wide_in rs t.state

    abbrev places : List ℕ
    places = places_in rs t.state

    pub shown_is : (served t q).shown ≡ repainted wide places st t.shown
    unfolding after reads_by item_bytes start_of
    shown_is = subst (λ (x : Terminal). x.shown ≡ repainted wide places x.state t.shown) (sym (granted_leaves t q e)) refl

    made : st ≡ apply_all (events_of rs) t.state
    unfolding after events_by reads_by item_bytes start_of beside_items
    made = ap (λ (x : Terminal). x.state) (granted_leaves t q e) ∙ ap (λ (es : List Event). apply_all es t.state) (append-nil (events_of rs))

    good : Good t.state
    good = (sizes t (granted_short t m room e).0 (granted_sound t q e)).0

    -- what is not painted is as it was
    kept_picture : (p : ℕ) → p < 640 → wide ≡ false → member p places ≡ false → picture st p ≡ picture t.state p
    kept_picture p h w n = ap (λ (x : State). picture x p) made ∙ untouched rs t.state good (legal_reads (uncut m) 0 t.state room) p h w n

    at_place : (p : ℕ) → p < 640 → get_or (served t q).shown p 0 ≡ cond (painted? wide places p) (picture st p) (get_or t.shown p 0)
    unfolding repainted
    at_place p h =
        let f : ℕ → ℕ = λ p. cond (painted? wide places p) (picture st p) (get_or t.shown p 0) in
        ap (λ (l : List ℕ). get_or l p 0) shown_is ∙ get_or_list_from f 640 0 p h ∙ ap f (zero-add p)

    pub each_place : (p : ℕ) → p < 640 → PlaceAfter t (served t q) p
    unfolding painted?
    each_place p h = by (leb 560 p) wide refl (member p places) refl (at_place p h)
      where
        by : (u w : Bool) → wide ≡ w → (v : Bool) → member p places ≡ v → get_or (served t q).shown p 0 ≡ cond (u || (w || v)) (picture st p) (get_or t.shown p 0) → PlaceAfter t (served t q) p
        by true w y v z x = painted x
        by false true y v z x = painted x
        by false false y true z x = painted x
        by false false y false z x = unaltered x (kept_picture p h y z)

    pub row_8 : (p : ℕ) → 560 ≤ p → p < 640 → get_or (served t q).shown p 0 ≡ picture st p
    unfolding painted?
    row_8 p l h = at_place p h ∙ ap (λ (b : Bool). cond (b || (wide || member p places)) (picture st p) (get_or t.shown p 0)) (le-leb 560 p l)

    -- a message of printed bytes and codes 8, 10 and 13 alone
    pub alters : Plain rs t.state → (p : ℕ) → p < 560 → member p places ≡ false → get_or (served t q).shown p 0 ≡ get_or t.shown p 0
    unfolding painted?
    alters f p h n =
        let low : leb 560 p ≡ false = lt-leb 560 p h in
        let narrow : wide ≡ false = plain-narrow rs t.state good (legal_reads (uncut m) 0 t.state room) f in
        at_place p (omega (arith, h)) ∙ (λ i. cond (low i || (narrow i || n i)) (picture st p) (get_or t.shown p 0))

    -- where a place was true it is
    pub true-place : (p : ℕ) → p < 640 → get_or t.shown p 0 ≡ picture t.state p → get_or (served t q).shown p 0 ≡ picture st p
    true-place p h z = by (each_place p h)
      where
        by : PlaceAfter t (served t q) p → get_or (served t q).shown p 0 ≡ picture st p
        by (painted x) = x
        by (unaltered x y) = x ∙ z ∙ sym y

    -- from a screen true in rows 1 to 7
    pub as_old : ShownIn above_row8 t → served t q ≡ served t old
    as_old f = λ i. record { state = same_state i; shown = (all ∙ ap painting same_state ∙ sym last) i }
      where
        now : (p : ℕ) → p < 640 → cond (painted? wide places p) (picture st p) (get_or t.shown p 0) ≡ picture st p
        now p h = sym (at_place p h) ∙ by (leb 560 p) refl
          where
            by : (b : Bool) → leb 560 p ≡ b → get_or (served t q).shown p 0 ≡ picture st p
            by true z = row_8 p (leb-true 560 p z) h
            by false z = true-place p h (was_true t f p (leb-false 560 p z))

        all : (served t q).shown ≡ painting st
        all = shown_is ∙ all_painted wide places st t.shown now

        last : (served t old).shown ≡ painting (served t old).state
        last = subst (λ (x : Terminal). x.shown ≡ painting x.state) (sym (granted-painted t old (sym same_granted ∙ e) refl)) refl

-- so a short message that kept its promise
pub short_in : (c : Call) → Promised c → c.answer.number ≡ 0 → (m : List ℕ) → c.asked ≡ short m → Quick c m
short_in c p e m f =
    let t : Terminal = c.given in
    let room : ℕ = length c.buffer in
    let fq : request_of c ≡ request (short m) room = ap (λ (a : Asked). request a room) f in
    let ok : granted t (request (short m) room) ≡ true = subst (λ (q : Request). granted t q ≡ true) fq (is_granted c p e) in
    let x : c.left ≡ served t (request (short m) room) = left_is c p ∙ ap (served t) fq in
    let rs : reads_in t (request_of c) ≡ reads_of (uncut m) 0 t.state room = ap (reads_in t) fq ∙ short_reads t m room ok in
    record {
      old_state = ap (λ (y : Terminal). y.state) x ∙ same_state t m room;
      old_answer = p.answer_is ∙ ap (answer_of t) fq ∙ same_answer t m room;
      old_printer = p.printer_is ∙ ap (λ (ys : List ℕ). written ys c.buffer) (ap (printed_by t) fq ∙ same_prints t m room);
      each = λ n h. subst (λ (y : Terminal). PlaceAfter t y n) (sym x) (each_place t m room ok n h);
      row_8 = λ n l h. subst (λ (y : Terminal). get_or y.shown n 0 ≡ picture y.state n) (sym x) (row_8 t m room ok n l h);
      alters = λ h n l z. ap (λ (y : Terminal). get_or y.shown n 0) x ∙ alters t m room ok (subst (λ (l : List Read). Plain l t.state) rs h) n l (subst (λ (l : List Read). member n (places_in l t.state) ≡ false) rs z);
      as_old = λ h. x ∙ as_old t m room ok h;
    }
