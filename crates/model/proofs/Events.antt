-- Of any list of legal events from a good state: it stays good, the window follows, and what each event keeps is kept by all.
use mathlib.Core.Path.{◌∙◌, ◌≡◌, ap, refl, subst, sym}
use Prim.Native.Nat.{◌*◌, ◌+◌, ◌-◌, ◌<◌, ◌≤◌, suc, zero, ℕ}
use native.Mathlib.Nat.{add_assoc, add-zero, le_of_suc-le-suc, not-suc-le-zero}
use native.Mathlib.Omega.{arith}
use mathlib.Core.Bool.{◌&&◌, true}
use mathlib.Core.List.{List, [], ◌++◌, ◌∷◌}
use lib.ListN.{get_or, length, take}
use lib.Dec.{eqb, leb, ltb}
use borrow.Author.Tests.{eqb-true, leb-true}
use Rattle.model.specs.Picture.{copy_size_of}
use Rattle.model.specs.declared.Item.{Item}
use Rattle.model.specs.declared.Place.{Place}
use Rattle.model.specs.declared.Item.TheVariants.{Control, Printed, Refused, Sequence}
use Rattle.model.specs.Bytes.{put}
use Rattle.model.specs.State.{State}
use Rattle.model.specs.Screens.{base, cell_at, columns_of, height, line_at, lines_of, place_of, screens, size, text_rows}
use Rattle.model.specs.Marks.{mark_in, mark_of}
use Rattle.model.specs.Line.{LineSound, line?, padded}
use Rattle.model.specs.Sound.{Good, array_ranges, key_ranges, plain_ranges}
use Rattle.model.specs.Sequences.{code_of}
use Rattle.model.specs.Reading.{Read, byte_of, item_of}
use Rattle.model.specs.declared.Limits.{Limits}
use Rattle.model.specs.Judging.{allowed, bad_of, fitting, judged, legal?, legal_item?, limits_of}
use Rattle.model.specs.Rules.{apply_item, with_settings}
use Rattle.model.specs.Items.{Event, apply_all, events_of, happened, item_read, key_set, line_left, lined, reads_of, texted}
use Rattle.model.specs.Keyable.{keyable}
use Rattle.model.specs.Kept.{InWindow, On, SameWindow, StillEvent, Unchanged, is_refusal, must_follow, refused_event, sets_mode, no_event}
use Rattle.model.proofs.Frames.{SameScreen, Spared, legal_event?}
use Rattle.model.proofs.Tests.{and_left, and_right, cond_at, differ}
use Rattle.model.proofs.ByteLaws.{get_d_part, length-put}
use Rattle.model.proofs.LineLaws.{length-padded, line_true}
use Rattle.model.proofs.Keep.{line_inside}
use Rattle.model.proofs.ItemLaws.{Obeyed, obeyed_item, quiet}
use Rattle.model.proofs.Following.{window_item}

-- reading gives only legal items: 11
legal_allowed : (i : Item) (s : Limits) → legal_item? (allowed i s) s ≡ true
unfolding allowed
legal_allowed (Printed c) s = refl
legal_allowed (Control c) s = refl
legal_allowed (Sequence q) s = cond_at (λ (i : Item). legal_item? i s ≡ true) (legal? q s) (Sequence q) (Refused 11 (bad_of q s)) (λ e. e) (λ e. refl)
legal_allowed (Refused n p) s = refl

legal_fitting : (i : Item) (s : Limits) (room : ℕ) → legal_item? i s ≡ true → legal_item? (fitting s.mode i room) s ≡ true
unfolding fitting
legal_fitting (Printed c) s room e = e
legal_fitting (Control c) s room e = e
legal_fitting (Sequence q) s room e = cond_at (λ (i : Item). legal_item? i s ≡ true) (eqb (code_of q) 80 && ltb room (copy_size_of s.mode)) (Refused 13 0) (Sequence q) (λ f. refl) (λ f. e)
legal_fitting (Refused n p) s room e = e

pub legal_judged : (i : Item) (s : Limits) (room : ℕ) → legal_item? (judged i s room) s ≡ true
legal_judged i s room = legal_fitting (allowed i s) s room (legal_allowed i s)

-- events that are legal one after the other
abbrev pub AllLegal : List Event → State → Type 0
AllLegal [] a = Unit {0}
AllLegal (e ∷ es) a = (legal_event? e (limits_of a.settings) ≡ true) × AllLegal es (happened e a)

pub legal_reads : (bss : List (List ℕ)) (at : ℕ) (a : State) (room : ℕ) → AllLegal (events_of (reads_of bss at a room)) a
unfolding reads_of happened
legal_reads [] at a room = tt
legal_reads (bs ∷ bss) at a room = (legal_judged (item_of at bs) (limits_of a.settings) room, legal_reads bss _ _ _)

pub apply_append : (es fs : List Event) (a : State) → apply_all (es ++ fs) a ≡ apply_all fs (apply_all es a)
unfolding apply_all
apply_append [] fs a = refl
apply_append (e ∷ es) fs a = apply_append es fs (happened e a)

-- and of what is read
pub events_append : (xs ys : List Read) → events_of (xs ++ ys) ≡ events_of xs ++ events_of ys
events_append [] ys = refl
events_append (x ∷ xs) ys = ap (λ (l : List Event). item_read x ∷ l) (events_append xs ys)

pub applied_append : (xs ys : List Read) (st : State) → apply_all (events_of (xs ++ ys)) st ≡ apply_all (events_of ys) (apply_all (events_of xs) st)
applied_append xs ys st = ap (λ (es : List Event). apply_all es st) (events_append xs ys) ∙ apply_append (events_of xs) (events_of ys) st

pub legal_append : (es fs : List Event) (a : State) → AllLegal es a → AllLegal fs (apply_all es a) → AllLegal (es ++ fs) a
unfolding apply_all
legal_append [] fs a p q = q
legal_append (e ∷ es) fs a p q = (p.0, legal_append es fs (happened e a) p.1 q)

-- a line that is left: nothing else moves
good_lined : (w : List ℕ) (n : ℕ) (a : State) → Good a → line? (padded w) (length w) n ≡ true → Good (lined w n a)
unfolding lined with_settings array_ranges plain_ranges key_ranges lines_of columns_of height text_rows place_of mark_of screens
good_lined w n a g e =
    let l : LineSound (padded w) (length w) n = line_true (padded w) (length w) n e in
    let z : length (padded w) ≡ 12 = length-padded w l.fits in
    let h = g.sound.arrays in
    record {
      sound = record {
        arrays = (h.0, (h.1.0, (h.1.1.0, (h.1.1.1.0, ((omega (arith, z), omega (arith, z)), h.1.1.1.1.1)))));
        shaped = g.sound.shaped;
        selected = g.sound.selected;
        inside = g.sound.inside;
        step_low = g.sound.step_low;
        step_high = g.sound.step_high;
        plain = g.sound.plain;
        line = l;
        marked = g.sound.marked;
        alone = g.sound.alone;
      };
      cells_are = g.cells_are;
      layer_are = g.layer_are;
      dots_are = g.dots_are;
    }

same_lined : (k : ℕ) (w : List ℕ) (n : ℕ) (a : State) → SameScreen k a (lined w n a)
unfolding lined with_settings lines_of columns_of height text_rows place_of base size
same_lined k w n a = record { same_base = refl; same_lines = refl; same_columns = refl; same_height = refl; same_place = refl; same_cells = refl; same_marks = refl }

-- a key's text: nothing else moves
good_texted : (k : ℕ) (x : List ℕ) (a : State) → Good a → keyable k x ≡ true → Good (texted k x a)
unfolding texted with_settings array_ranges plain_ranges key_ranges lines_of columns_of height text_rows place_of mark_of keyable screens
good_texted k x a g e =
    let t : List ℕ = a.settings.texts in
    let e₂ = and_right (leb 1 k) (leb k 10 && eqb (length x) 8) e in
    let h = g.sound.arrays in
    let n : length t ≡ 80 = omega (arith, h.1.1.1.1.1.0) in
    let z : length (put ((k - 1) * 8) x t) ≡ length t =
    length-put ((k - 1) * 8) x t (omega (arith, n, leb-true 1 k (and_left (leb 1 k) _ e), leb-true k 10 (and_left (leb k 10) _ e₂), eqb-true (length x) 8 (and_right (leb k 10) _ e₂))) in
    record {
      sound = record {
        arrays = (h.0, (h.1.0, (h.1.1.0, (h.1.1.1.0, (h.1.1.1.1.0, ((omega (arith, z, n), omega (arith, z, n)), h.1.1.1.1.1.1))))));
        shaped = g.sound.shaped;
        selected = g.sound.selected;
        inside = g.sound.inside;
        step_low = g.sound.step_low;
        step_high = g.sound.step_high;
        plain = g.sound.plain;
        line = g.sound.line;
        marked = g.sound.marked;
        alone = g.sound.alone;
      };
      cells_are = g.cells_are;
      layer_are = g.layer_are;
      dots_are = g.dots_are;
    }

same_texted : (j k : ℕ) (x : List ℕ) (a : State) → SameScreen j a (texted k x a)
unfolding texted with_settings lines_of columns_of height text_rows place_of base size
same_texted j k x a = record { same_base = refl; same_lines = refl; same_columns = refl; same_height = refl; same_place = refl; same_cells = refl; same_marks = refl }

-- one event
obeyed_event : (e : Event) (a : State) → Good a → legal_event? e (limits_of a.settings) ≡ true → Obeyed a (happened e a) (sets_mode e) (StillEvent e a)
unfolding happened
obeyed_event (item_read r) a g l = obeyed_item (byte_of r) r.item a g l
obeyed_event (line_left w n) a g l = quiet (good_lined w n a g l) (λ k h d. same_lined k w n a)
obeyed_event (key_set k x) a g l = quiet (good_texted k x a g l) (λ j h d. same_texted j k x a)

window_event : (e : Event) (a : State) → Good a → legal_event? e (limits_of a.settings) ≡ true → must_follow e ≡ true → a.settings.tracking ≡ 1 → InWindow (happened e a)
unfolding happened
window_event (item_read r) a g l f on = window_item (byte_of r) r.item a g l f on
window_event (line_left w n) a g l f on = absurd (differ (sym f))
window_event (key_set k x) a g l f on = absurd (differ (sym f))

-- what stands before event n
abbrev pub at : List Event → State → ℕ → State
at es a n = apply_all (take n es) a

pub good_at : (es : List Event) (a : State) → Good a → AllLegal es a → (n : ℕ) → Good (at es a n)
unfolding apply_all
good_at es a g l zero = g
good_at [] a g l (suc n) = g
good_at (e ∷ es) a g l (suc n) = good_at es (happened e a) (obeyed_event e a g l.0).good l.1 n

pub good_all : (es : List Event) (a : State) → Good a → AllLegal es a → Good (apply_all es a)
unfolding apply_all
good_all [] a g l = g
good_all (e ∷ es) a g l = good_all es (happened e a) (obeyed_event e a g l.0).good l.1

-- what stands after event n
pub at_next : (es : List Event) (a : State) (n : ℕ) → n < length es → at es a (suc n) ≡ happened (get_or es n no_event) (at es a n)
unfolding apply_all
at_next [] a n h = absurd (not-suc-le-zero h)
at_next (e ∷ es) a zero h = refl
at_next (e ∷ es) a (suc n) h = at_next es (happened e a) n (le_of_suc-le-suc h)

-- a refusal changes nothing
pub refused_nothing : (e : Event) (a : State) → refused_event e ≡ true → happened e a ≡ a
unfolding happened apply_item
refused_nothing (item_read r) a e = go r.item e
  where
    go : (i : Item) → is_refusal i ≡ true → apply_item (byte_of r) i a ≡ a
    go (Printed c) e = absurd (differ (sym e))
    go (Control c) e = absurd (differ (sym e))
    go (Sequence q) e = absurd (differ (sym e))
    go (Refused n p) e = refl
refused_nothing (line_left w n) a e = absurd (differ (sym e))
refused_nothing (key_set k x) a e = absurd (differ (sym e))

-- what event n does
pub event_at : (es : List Event) (a : State) → Good a → AllLegal es a → (n : ℕ) → n < length es → Obeyed (at es a n) (at es a (suc n)) (sets_mode (get_or es n no_event)) (StillEvent (get_or es n no_event) (at es a n))
unfolding apply_all
event_at [] a g l n h = absurd (not-suc-le-zero h)
event_at (e ∷ es) a g l zero h = obeyed_event e a g l.0
event_at (e ∷ es) a g l (suc n) h = event_at es (happened e a) (obeyed_event e a g l.0).good l.1 n (le_of_suc-le-suc h)

pub window_at_lem : (es : List Event) (a : State) → Good a → AllLegal es a → (n : ℕ) → n < length es → must_follow (get_or es n no_event) ≡ true
    → (at es a n).settings.tracking ≡ 1 → InWindow (at es a (suc n))
unfolding apply_all
window_at_lem [] a g l n h f on = absurd (not-suc-le-zero h)
window_at_lem (e ∷ es) a g l zero h f on = window_event e a g l.0 f on
window_at_lem (e ∷ es) a g l (suc n) h f on = window_at_lem es (happened e a) (obeyed_event e a g l.0).good l.1 n (le_of_suc-le-suc h) f on

-- what each of m events from event i keeps is kept by them all
chain : (R : State → State → Type 0) → ((a : State) → R a a) → ((a b c : State) → R a b → R b c → R a c)
    → (f : ℕ → State) (i m : ℕ) → ((n : ℕ) → i ≤ n → n < i + m → R (f n) (f (suc n))) → R (f i) (f (i + m))
chain R rf tr f i zero h = rw add-zero (rf (f i))
chain R rf tr f i (suc m) h =
    let e : i + suc m ≡ suc (i + m) = omega arith in
    rw e (tr _ _ _ (chain R rf tr f i m (λ n u v. h n u (omega arith))) (h (i + m) (omega arith) (omega arith)))

pub chained : (R : State → State → Type 0) → ((a : State) → R a a) → ((a b c : State) → R a b → R b c → R a c)
    → (f : ℕ → State) (i j : ℕ) → i ≤ j → ((n : ℕ) → i ≤ n → n < j → R (f n) (f (suc n))) → R (f i) (f j)
chained R rf tr f i j u h = let z : i + (j - i) ≡ j = omega arith in subst (λ (m : ℕ). R (f i) (f m)) z (chain R rf tr f i (j - i) (λ n p q. h n p (omega arith)))

-- a cell of line l and column c lies among the n lines of w
pub cell_inside : (w l n c : ℕ) → 1 ≤ l → l ≤ n → 1 ≤ c → c ≤ w → (l - 1) * w + (c - 1) < n * w
cell_inside w l n c p q r s = omega (arith, line_inside w l n p q)

-- a window that is the same, in the words of the claim
pub same_window : {k : ℕ} {a b : State} → SameScreen k a b → SameWindow k a b
same_window s = record { top = ap (λ (p : Place). p.top) s.same_place; tall = s.same_height }

-- and a screen that is the same but for its window
pub unchanged : {k : ℕ} {a b : State} → Spared k a b → Unchanged k a b
unfolding cell_at line_at size mark_of
unchanged {k} {a} {b} s = record {
  lines = s.same_lines;
  columns = s.same_columns;
  cells = same_cell;
  cursor_line = s.same_line;
  cursor_column = s.same_column;
  late = s.same_late;
  marks = same_mark;
}
  where
    same_mark : (l : ℕ) → 1 ≤ l → l ≤ 48 → mark_of b.settings k l ≡ mark_of a.settings k l
    same_mark l p q = ap (λ (n : ℕ). mark_in n l) s.same_marks

    same_cell : (l c : ℕ) → On a.settings k l c → get_or b.cells (cell_at b.settings k l c) 0 ≡ get_or a.cells (cell_at a.settings k l c) 0
    same_cell l c o =
        let i : ℕ = (l - 1) * columns_of a.settings k + (c - 1) in
        let h : i < size a.settings k = cell_inside (columns_of a.settings k) l (lines_of a.settings k) c o.line_low o.line_high o.column_low o.column_high in
        let z : size b.settings k ≡ size a.settings k = λ j. s.same_lines j * s.same_columns j in
        let h₂ : i < size b.settings k = omega (arith, h, z) in
        (λ j. get_or b.cells (base b.settings k + (l - 1) * s.same_columns j + (c - 1)) 0)
        ∙ ap (λ (n : ℕ). get_or b.cells n 0) (add_assoc (base b.settings k) ((l - 1) * columns_of a.settings k) (c - 1))
        ∙ sym (get_d_part b.cells (base b.settings k) (size b.settings k) i h₂)
        ∙ ap (λ (xs : List ℕ). get_or xs i 0) s.same_cells
        ∙ get_d_part a.cells (base a.settings k) (size a.settings k) i h
        ∙ ap (λ (n : ℕ). get_or a.cells n 0) (sym (add_assoc (base a.settings k) ((l - 1) * columns_of a.settings k) (c - 1)))
