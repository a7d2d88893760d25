-- P12: an item that is not wide leaves the picture as it was but at the place of a cell that it prints; so a short message may leave unpainted what it does. And
-- what it then promises of the places.
use mathlib.Core.Path.{◌∙◌, ◌≡◌, ap, refl, sym}
use Prim.Native.Nat.{◌+◌, ◌-◌, ◌<◌, max, ℕ}
use native.Mathlib.Omega.{arith}
use mathlib.Core.Bool.{Bool, ◌&&◌, ◌||◌, cond, false, not, true}
use mathlib.Core.List.{List, [], ◌∷◌}
use native.Mathlib.Decide.{ℕ_discrete}
use lib.Dec.{eqb, ltb}
use borrow.Author.Tests.{eqb-true, eqb-false}
use Rattle.model.specs.declared.Item.{Item}
use Rattle.model.specs.declared.Item.TheVariants.{Control, Printed, Refused, Sequence}
use Rattle.model.specs.declared.Place.{Place}
use Rattle.model.specs.declared.Sequence.{Sequence as Seq}
use Rattle.model.specs.declared.Sequence.TheVariants.{Arrows1, Arrows2, Arrows3, CapsOff, CapsOn, Charset, Clear, Copy, CursorKind, CursorOff, CursorOn, Display, DrawDot, DrawLine, EraseLine, EraseRest, InsOff, InsOn, LinesDown, LinesUp, Cover, Mode0, Mode1, Mode2, Mode3, Nothing, NumOff, NumOn, Pattern, PrintCode, Put, Repeat, RepeatDelay, RepeatInterval, SecretOff, SecretOn, Select, Shift, Step, StringsOff, StringsOn, Tracking, WindowBottom, WindowCursor, WindowDown, WindowTop, WindowUp}
use Rattle.model.specs.State.{State, put_at, top_at, late_at}
use Rattle.model.specs.Checks.{InRanges, in_ranges?, member}
use Rattle.model.specs.Screens.{base, cell_at, columns_here, columns_of, here, line_at, lines_here, place_of, text_rows}
use Rattle.model.specs.Marks.{running_on}
use Rattle.model.specs.Sound.{Good}
use Rattle.model.specs.Picture.{covered, halves, picture, picture_at, sides, text_at, under, window_at}
use Rattle.model.specs.Sequences.{code_of, idle?}
use Rattle.model.specs.Reading.{Read, byte_of}
use Rattle.model.specs.Rules.{apply_item, late_step, centred, cleared, control, down, emptied, flagged, missed, nearest, obeyed, onward, placed, printed, remarked, right, runs_on, stored, to_column, topped, tracked, tracked_far, with_dots, with_keys, with_kind_patterns, with_layer, with_settings}
use Rattle.model.specs.Judging.{judged_ranges, legal?, legal_item?, limits_of, ranges}
use Rattle.model.specs.Items.{apply_all, events_of, happened, obeyed_by}
use Rattle.calls.specs.Repaint.{calm?, lifts?, lowest?, moves_top?, place_by, places_in, print_lifts?, print_place, wide?, wide_codes, wide_in}
use Rattle.model.proofs.Tests.{cond_at, differ, or_false, ranges-true}
use Rattle.model.proofs.Events.{AllLegal}
use Rattle.model.proofs.ItemLaws.{kept_put, obeyed_item}
use Rattle.model.proofs.Keep.{Kept, place_other, place_same}
use Rattle.model.proofs.Steps.{columns_some, fits, kept_late_step, kept_down, kept_right, kept_stored, kept_to_column}
use Rattle.laws.proofs.Views.{SameView, other_picture, own_picture, same_picture, same_top, view_refl, view_trans}

not-true : (b : Bool) → not b ≡ true → b ≡ false
not-true true e = sym e
not-true false e = refl

not-false : (b : Bool) → not b ≡ false → b ≡ true
not-false true e = refl
not-false false e = sym e

-- a cursor elsewhere, under the same top
module _ (a : State) (g : Good a) where
  view_placed : (p : Place) → p.top ≡ (here a).top → SameView a (placed p a)
  unfolding placed
  view_placed p e = record {
    same_cells = refl;
    same_layer = refl;
    same_mode = refl;
    same_lines = refl;
    same_columns = refl;
    same_others = refl;
    same_boundary = refl;
    same_selected = refl;
    same_secret = refl;
    same_display = refl;
    same_texts = refl;
    same_tops = λ k. tops k (ℕ_discrete k a.settings.selected);
  }
    where
      tops : (k : ℕ) → Dec (k ≡ a.settings.selected) → (place_of (placed p a).settings k).top ≡ (place_of a.settings k).top
      tops k (yes z) = ap (λ (j : ℕ). (place_of (placed p a).settings j).top) z ∙ ap (λ (x : Place). x.top) (place_same a g p) ∙ e ∙ ap (λ (j : ℕ). (place_of a.settings j).top) (sym z)
      tops k (no z) = ap (λ (x : Place). x.top) (place_other a g p k z)

  view_column : (c : ℕ) → SameView a (to_column c a)
  unfolding to_column
  view_column c = view_placed (put_at (here a).line c (here a)) refl

  -- no picture looks at the marks
  view_marked : (f : (ℕ → ℕ) → ℕ → ℕ) → SameView a (remarked f a)
  unfolding remarked with_settings place_of
  view_marked f =
      record { same_cells = refl; same_layer = refl; same_mode = refl; same_lines = refl; same_columns = refl; same_others = refl; same_boundary = refl; same_selected = refl; same_secret = refl; same_display = refl; same_texts = refl; same_tops = λ k. refl }

  -- a step down that does not lift
  view_down : lowest? a ≡ false → SameView a (down a)
  unfolding down lowest?
  view_down e = cond_at (SameView a) (ltb (here a).line (lines_here a)) _ _ (λ t. view_placed (put_at ((here a).line + 1) (here a).column (here a)) refl) (λ t. absurd (differ (sym (ap not t) ∙ e)))

module _ (a : State) (g : Good a) where
  -- the step to the next line, where it does not lift
  view_onward : lowest? a ≡ false → SameView a (onward a)
  unfolding onward runs_on lowest? to_column placed
  view_onward e =
      let b : State = to_column 1 a in
      let k : Kept a b = kept_to_column a g 1 (omega arith) (columns_some a g) in
      let same : (here b).line ≡ (here a).line = ap (λ (x : Place). x.line) (place_same a g (put_at (here a).line 1 (here a))) in
      let low : lowest? b ≡ false = (λ i. not (ltb (same i) ((k.same_shape a.settings.selected).0 i))) ∙ e in
      let d : Kept b (down b) = kept_down b k.good in
      view_trans (view_column a g 1) (view_trans (view_down b k.good low) (view_marked (down b) d.good (running_on ((here (down b)).line - 1))))

  -- the late step, and the move right
  view_late_step : (eqb (here a).late 1 && lowest? a) ≡ false → SameView a (late_step a)
  unfolding late_step
  view_late_step e = cond_at (SameView a) (eqb (here a).late 1) (onward a) a (λ t. view_onward (sym (ap (λ (b : Bool). b && lowest? a) t) ∙ e)) (λ t. view_refl a)

  view_right : (not (ltb (here a).column (columns_here a)) && (not (eqb a.settings.rule 2) && lowest? a)) ≡ false → SameView a (right a)
  unfolding right
  view_right e =
      cond_at (SameView a) (ltb (here a).column (columns_here a)) _ _ (λ t. view_column a g ((here a).column + 1))
      (λ t. cond_at (SameView a) (eqb a.settings.rule 2) _ _ (λ u. view_placed a g (late_at (here a)) refl)
      (λ u. view_onward (sym (λ i. not (t i) && (not (u i) && lowest? a)) ∙ e)))

  -- a window that is looked for and does not move
  still : (t : ℕ) → (here (topped t a)).top ≡ (here a).top → topped t a ≡ a
  unfolding topped emptied with_layer
  still t e = by (eqb t (here a).top) refl e
    where
      by : (b : Bool) → eqb t (here a).top ≡ b → (here (cond b a (emptied (placed (top_at t (here a)) a)))).top ≡ (here a).top → cond b a (emptied (placed (top_at t (here a)) a)) ≡ a
      by true z e = refl
      by false z e = absurd (eqb-false t (here a).top z (sym (ap (λ (x : Place). x.top) (place_same a g (top_at t (here a)))) ∙ e))

  pub tracked_still : (here (tracked a)).top ≡ (here a).top → tracked a ≡ a
  unfolding tracked
  tracked_still e = by (eqb a.settings.tracking 1 && missed a) e
    where
      by : (b : Bool) → (here (cond b (topped (nearest a) a) a)).top ≡ (here a).top → cond b (topped (nearest a) a) a ≡ a
      by true e = still (nearest a) e
      by false e = refl

  pub tracked_far_still : (here (tracked_far a)).top ≡ (here a).top → tracked_far a ≡ a
  unfolding tracked_far
  tracked_far_still e = by (eqb a.settings.tracking 1 && missed a) e
    where
      by : (b : Bool) → (here (cond b (topped (centred a) a) a)).top ≡ (here a).top → cond b (topped (centred a) a) a ≡ a
      by true e = still (centred a) e
      by false e = refl

-- a printed character that does not lift and moves no top: every place but its own is as it was, and its own shows it
module _ (a : State) (g : Good a) (c : ℕ) (none : print_lifts? a ≡ false) (top : (here (printed c a)).top ≡ (here a).top) where
  stepped : State
  stepped = late_step a

  kept₁ : Kept a stepped
  unfolding stepped
  kept₁ = kept_late_step a g

  view₁ : SameView a stepped
  unfolding stepped print_lifts?
  view₁ = view_late_step a g (or_false (eqb (here a).late 1 && lowest? a) _ none).0

  moved : State
  moved = right (stored c stepped)

  view₂ : SameView (stored c stepped) moved
  unfolding moved stepped print_lifts? stored lowest?
  view₂ = view_right (stored c stepped) (kept_stored stepped kept₁.good c).good (or_false (eqb (here a).late 1 && lowest? a) _ none).1

  kept₂ : Kept (stored c stepped) moved
  unfolding moved
  kept₂ = kept_right (stored c stepped) (kept_stored stepped kept₁.good c).good

  -- so the window stays where it is
  same_tops : (here moved).top ≡ (here a).top
  unfolding stored
  same_tops = same_top view₂ ∙ same_top view₁

  printed_is : printed c a ≡ moved
  unfolding printed moved stepped
  printed_is = tracked_still moved kept₂.good (top ∙ sym same_tops)

  printed_other : (p : ℕ) → p < 640 → (p ≡ print_place a → ⊥) → picture (printed c a) p ≡ picture a p
  unfolding print_place stepped
  printed_other p h n = ap (λ (x : State). picture x p) printed_is ∙ same_picture view₂ p ∙ other_picture stepped kept₁.good c p h n ∙ same_picture view₁ p

  pub printed_own : print_place a < 640 → picture (printed c a) (print_place a) ≡ cond (eqb a.settings.secret 1) 32 c
  unfolding print_place stepped
  printed_own h =
      ap (λ (x : State). picture x (print_place a)) printed_is ∙ same_picture view₂ (print_place a) ∙ own_picture stepped kept₁.good c h
      ∙ ap (λ (n : ℕ). cond (eqb n 1) 32 c) view₁.same_secret

-- codes but 12
module _ (a : State) (g : Good a) where
  after_tracked : (b : State) → SameView a b → Good b → (here (tracked b)).top ≡ (here a).top → (p : ℕ) → picture (tracked b) p ≡ picture a p
  after_tracked b v h e p = ap (λ (x : State). picture x p) (tracked_still b h (e ∙ sym (same_top v))) ∙ same_picture v p

  control_other : (c : ℕ) → eqb c 12 ≡ false → (eqb c 10 && lowest? a) ≡ false → (here (control c a)).top ≡ (here a).top → (p : ℕ) → picture (control c a) p ≡ picture a p
  unfolding control
  control_other c e f t p = go (eqb c 8) (eqb c 10) (eqb c 13) (eqb c 12) e f t
    where
      go : (x y z w : Bool) → w ≡ false → (y && lowest? a) ≡ false
          → let s = cond x (tracked (to_column (max 1 ((here a).column - 1)) a)) (cond y (tracked (down a)) (cond z (tracked (to_column 1 a)) (cond w (cleared a) a))) in (here s).top ≡ (here a).top → picture s p ≡ picture a p
      go true y z w e f t = after_tracked (to_column (max 1 ((here a).column - 1)) a) (view_column a g (max 1 ((here a).column - 1))) (kept_to_column a g (max 1 ((here a).column - 1)) (omega arith) (omega (arith, fits a g))).good t p
      go false true z w e f t = after_tracked (down a) (view_down a g f) (kept_down a g).good t p
      go false false true w e f t = after_tracked (to_column 1 a) (view_column a g 1) (kept_to_column a g 1 (omega arith) (columns_some a g)).good t p
      go false false false true e f t = absurd (differ e)
      go false false false false e f t = refl

-- the sequences that are not wide: 37 prints, 61 puts the cursor, the others are not in the picture
sequence_other : (ms : ℕ → ℕ) (q : Seq) (a : State) → Good a → InRanges (ranges q (limits_of a.settings)) → member (code_of q) wide_codes ≡ false → (eqb (code_of q) 37 && print_lifts? a) ≡ false
    → (here (obeyed ms q a)).top ≡ (here a).top → (p : ℕ) → p < 640 → eqb p (cond (eqb (code_of q) 37) (print_place a) 640) ≡ false → picture (obeyed ms q a) p ≡ picture a p
unfolding obeyed member flagged with_keys with_kind_patterns with_dots with_settings picture picture_at covered under text_at halves sides window_at cell_at line_at base columns_of place_of text_rows
sequence_other ms (PrintCode c) a g e w f t p h j = printed_other a g c f t p h (eqb-false p (print_place a) j)
sequence_other ms (Put l c) a g e w f t p h j =
    let v : SameView a (placed (put_at (l - 31) (c - 31) (here a)) a) = view_placed a g (put_at (l - 31) (c - 31) (here a)) refl in
    ap (λ (x : State). picture x p) (tracked_far_still _ (kept_put a g l c e).good (t ∙ sym (same_top v))) ∙ same_picture v p
sequence_other ms CursorOff a g e w f t p h j = refl
sequence_other ms CursorOn a g e w f t p h j = refl
sequence_other ms (Charset n) a g e w f t p h j = refl
sequence_other ms Copy a g e w f t p h j = refl
sequence_other ms (Step n) a g e w f t p h j = refl
sequence_other ms (Tracking n) a g e w f t p h j = refl
sequence_other ms InsOn a g e w f t p h j = refl
sequence_other ms InsOff a g e w f t p h j = refl
sequence_other ms CapsOn a g e w f t p h j = refl
sequence_other ms CapsOff a g e w f t p h j = refl
sequence_other ms NumOn a g e w f t p h j = refl
sequence_other ms NumOff a g e w f t p h j = refl
sequence_other ms StringsOff a g e w f t p h j = refl
sequence_other ms StringsOn a g e w f t p h j = refl
sequence_other ms (DrawLine p1 p2 p3 p4 p5 p6 p7 p8 p9 p10 p11) a g e w f t p h j = refl
sequence_other ms (DrawDot p1 p2 p3 p4) a g e w f t p h j = refl
sequence_other ms (CursorKind n) a g e w f t p h j = refl
sequence_other ms (Pattern c at) a g e w f t p h j = refl
sequence_other ms (Repeat n) a g e w f t p h j = refl
sequence_other ms (RepeatDelay n) a g e w f t p h j = refl
sequence_other ms (RepeatInterval n) a g e w f t p h j = refl
sequence_other ms (Arrows1 c1 c2 c3 c4) a g e w f t p h j = refl
sequence_other ms (Arrows2 c1 c2 c3 c4) a g e w f t p h j = refl
sequence_other ms (Arrows3 c1 c2 c3 c4) a g e w f t p h j = refl
sequence_other ms Nothing a g e w f t p h j = refl
sequence_other ms (Shift n) a g e w f t p h j = refl
sequence_other ms Clear a g e w f t p h j = absurd (differ w)
sequence_other ms EraseLine a g e w f t p h j = absurd (differ w)
sequence_other ms EraseRest a g e w f t p h j = absurd (differ w)
sequence_other ms SecretOn a g e w f t p h j = absurd (differ w)
sequence_other ms SecretOff a g e w f t p h j = absurd (differ w)
sequence_other ms (LinesUp x m) a g e w f t p h j = absurd (differ w)
sequence_other ms (LinesDown x m) a g e w f t p h j = absurd (differ w)
sequence_other ms WindowUp a g e w f t p h j = absurd (differ w)
sequence_other ms WindowDown a g e w f t p h j = absurd (differ w)
sequence_other ms (Mode0 x y) a g e w f t p h j = absurd (differ w)
sequence_other ms (Mode1 x) a g e w f t p h j = absurd (differ w)
sequence_other ms (Mode2 x m y) a g e w f t p h j = absurd (differ w)
sequence_other ms Mode3 a g e w f t p h j = absurd (differ w)
sequence_other ms (Select n) a g e w f t p h j = absurd (differ w)
sequence_other ms (Cover r c m) a g e w f t p h j = absurd (differ w)
sequence_other ms (Display m) a g e w f t p h j = absurd (differ w)
sequence_other ms WindowTop a g e w f t p h j = absurd (differ w)
sequence_other ms WindowBottom a g e w f t p h j = absurd (differ w)
sequence_other ms WindowCursor a g e w f t p h j = absurd (differ w)

-- any item that is not wide (for the code: what was shown there is still true)
pub item_other : (ms : ℕ → ℕ) (i : Item) (a : State) → Good a → legal_item? i (limits_of a.settings) ≡ true → calm? i ≡ true → lifts? i a ≡ false → (here (apply_item ms i a)).top ≡ (here a).top
    → (p : ℕ) → p < 640 → eqb p (place_by i a) ≡ false → picture (apply_item ms i a) p ≡ picture a p
unfolding apply_item calm? lifts? place_by legal? judged_ranges
item_other ms (Printed c) a g e w f t p h j = printed_other a g c f t p h (eqb-false p (print_place a) j)
item_other ms (Control c) a g e w f t p h j = control_other a g c (not-true (eqb c 12) w) f t p
item_other ms (Sequence q) a g e w f t p h j = by (idle? a.settings.mode (code_of q)) refl t
  where
    by : (b : Bool) → idle? a.settings.mode (code_of q) ≡ b → (here (cond b a (obeyed ms q a))).top ≡ (here a).top → picture (cond b a (obeyed ms q a)) p ≡ picture a p
    by true d t = refl
    by false d t =
        sequence_other ms q a g (ranges-true (ranges q (limits_of a.settings)) (sym (ap (λ (b : Bool). in_ranges? (cond b [] (ranges q (limits_of a.settings)))) d) ∙ e)) (not-true (member (code_of q) wide_codes) w) f t p h j
item_other ms (Refused n k) a g e w f t p h j = refl

-- items, none of which is wide or prints at a place: the picture there is as it was
pub untouched : (rs : List Read) (a : State) → Good a → AllLegal (events_of rs) a → (p : ℕ) → p < 640 → wide_in rs a ≡ false → member p (places_in rs a) ≡ false → picture (apply_all (events_of rs) a) p ≡ picture a p
unfolding wide_in places_in wide? moves_top? member apply_all happened
untouched [] a g l p h e n = refl
untouched (r ∷ rs) a g l p h e n =
    let z = or_false (wide? r a) (wide_in rs (obeyed_by r a)) e in
    let y = or_false (eqb p (place_by r.item a)) (member p (places_in rs (obeyed_by r a))) n in
    let x = or_false (not (calm? r.item)) (lifts? r.item a || moves_top? r a) z.0 in
    let w = or_false (lifts? r.item a) (moves_top? r a) x.1 in
    let top : (here (obeyed_by r a)).top ≡ (here a).top = eqb-true _ _ (not-false _ w.1) in
    untouched rs (obeyed_by r a) (obeyed_item (byte_of r) r.item a g l.0).good l.1 p h z.1 y.1
    ∙ item_other (byte_of r) r.item a g l.0 (not-false (calm? r.item) x.0) w.0 top p h y.0
