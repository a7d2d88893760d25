-- P11: which dots an item leaves: those that stand, but for a mode setting, for what draws, and for 42 and code 12. "Nothing else read in modes 0 to 2
-- touches dots": there only a mode setting does.
use mathlib.Core.Path.{◌∙◌, ◌≡◌, ap, ap₂, refl, sym}
use Prim.Native.Nat.{ℕ}
use mathlib.Core.Bool.{Bool, ◌&&◌, ◌||◌, cond, false, true}
use mathlib.Core.List.{List}
use lib.ListN.{replicate}
use lib.Dec.{eqb, ltb}
use borrow.Author.Tests.{eqb-true, ne_eqb}
use Rattle.model.specs.declared.Item.{Item}
use Rattle.model.specs.declared.Item.TheVariants.{Control, Printed, Refused, Sequence}
use Rattle.model.specs.declared.Sequence.{Sequence as Seq}
use Rattle.model.specs.declared.Sequence.TheVariants.{Arrows1, Arrows2, Arrows3, CapsOff, CapsOn, Charset, Clear, Copy, CursorKind, CursorOff, CursorOn, Display, DrawDot, EraseLine, EraseRest, InsOff, InsOn, DrawLine, LinesDown, LinesUp, Cover, Mode0, Mode1, Mode2, Mode3, Nothing, NumOff, NumOn, Pattern, PrintCode, Put, Repeat, RepeatDelay, RepeatInterval, SecretOff, SecretOn, Select, Shift, Step, StringsOff, StringsOn, Tracking, WindowBottom, WindowCursor, WindowDown, WindowTop, WindowUp}
use Rattle.model.specs.State.{State, top_at}
use Rattle.model.specs.Screens.{columns_here, here, lines_here}
use Rattle.model.specs.Sequences.{code_of, drawing, idle?, idle_there}
use Rattle.model.specs.Checks.{member}
use Rattle.model.specs.OnScreen.{on_screen?, on_screen_codes}
use Rattle.model.specs.Reading.{byte_of}
use Rattle.model.specs.Rules.{apply_item, late_step, blank_from, centred, cleared, control, dots_cleared, down, emptied, erased, flagged, key_line, lifted, missed, nearest, obeyed, on_lines, onward, placed, printed, remarked, right, runs_on, shifted, stored, to_column, topped, tracked, tracked_far, with_cells, with_dots, with_keys, with_kind_patterns, with_layer, with_settings}
use Rattle.model.specs.Items.{Event, happened, item_read, key_set, line_left, lined, texted}
use Rattle.model.specs.Kept.{is_mode, sets_mode}
use Rattle.model.proofs.Tests.{cond_at, cond₂, differ}

abbrev Stays : State → State → Type 0
Stays a b = b.dots ≡ a.dots

topped_dots : (t : ℕ) (a : State) → Stays a (topped t a)
unfolding topped emptied with_layer placed
topped_dots t a = cond_at (Stays a) (eqb t (here a).top) a (emptied (placed (top_at t (here a)) a)) (λ e. refl) (λ e. refl)

tracked_dots : (a : State) → Stays a (tracked a)
unfolding tracked
tracked_dots a = cond_at (Stays a) (eqb a.settings.tracking 1 && missed a) (topped (nearest a) a) a (λ e. topped_dots _ a) (λ e. refl)

tracked_far_dots : (a : State) → Stays a (tracked_far a)
unfolding tracked_far
tracked_far_dots a = cond_at (Stays a) (eqb a.settings.tracking 1 && missed a) (topped (centred a) a) a (λ e. topped_dots _ a) (λ e. refl)

down_dots : (a : State) → Stays a (down a)
unfolding down lifted remarked on_lines emptied with_layer with_cells with_settings placed
down_dots a = cond_at (Stays a) (ltb (here a).line (lines_here a)) _ _ (λ e. refl) (λ e. refl)

onward_dots : (a : State) → Stays a (onward a)
unfolding onward runs_on remarked with_settings to_column placed
onward_dots a = down_dots (to_column 1 a)

right_dots : (a : State) → Stays a (right a)
unfolding right to_column placed
right_dots a = cond_at (Stays a) (ltb (here a).column (columns_here a)) _ _ (λ e. refl) (λ e. cond_at (Stays a) (eqb a.settings.rule 2) _ _ (λ f. refl) (λ f. onward_dots a))

late_step_dots : (a : State) → Stays a (late_step a)
unfolding late_step
late_step_dots a = cond_at (Stays a) (eqb (here a).late 1) (onward a) a (λ e. onward_dots a) (λ e. refl)

stored_dots : (c : ℕ) (a : State) → Stays a (stored c a)
unfolding stored
stored_dots c a = refl

pub printed_dots : (c : ℕ) (a : State) → Stays a (printed c a)
unfolding printed
printed_dots c a = tracked_dots _ ∙ right_dots _ ∙ stored_dots c (late_step a) ∙ late_step_dots a

display_dots : (n : ℕ) (a : State) → Stays a (key_line n a)
unfolding key_line emptied with_layer with_settings
display_dots n a = cond_at (Stays a) (eqb n a.settings.display) _ _ (λ e. refl) (λ e. refl)

-- those that a clearing leaves, or those that stand
abbrev pub cleared_if : Bool → State → List ℕ
cleared_if b a = cond b (dots_cleared a) a.dots

cleared_dots : (a : State) → (cleared a).dots ≡ dots_cleared a
unfolding cleared with_dots
cleared_dots a = refl

module _ (a : State) where
  -- code 12
  pub control_dots : (c : ℕ) → (control c a).dots ≡ cleared_if (eqb c 12) a
  unfolding control to_column placed
  control_dots c =
      let P : State → Type 0 = λ b. b.dots ≡ cleared_if (eqb c 12) a in
      let other : (k : ℕ) → eqb c k ≡ true → eqb k 12 ≡ false → a.dots ≡ cleared_if (eqb c 12) a = λ k e n. ap (λ (b : Bool). cleared_if b a) (sym (ap (λ (x : ℕ). eqb x 12) (eqb-true c k e) ∙ n)) in
      cond_at P (eqb c 8) _ _ (λ e. tracked_dots _ ∙ other 8 e refl)
      (λ e. cond_at P (eqb c 10) _ _ (λ e₂. tracked_dots _ ∙ down_dots a ∙ other 10 e₂ refl)
      (λ e₂. cond_at P (eqb c 13) _ _ (λ e₃. tracked_dots _ ∙ other 13 e₃ refl)
      (λ e₃. cond₂ (λ (b : State) (ds : List ℕ). b.dots ≡ ds) (eqb c 12) (eqb c 12) (cleared a) a (dots_cleared a) a.dots refl (λ e₄. cleared_dots a) (λ e₄. refl))))

  -- 42, and the sequences that neither draw nor set a mode
  pub obeyed_dots : (ms : ℕ → ℕ) (q : Seq) → is_mode (Sequence q) ≡ false → member (code_of q) drawing ≡ false → (obeyed ms q a).dots ≡ cleared_if (eqb (code_of q) 42) a
  unfolding obeyed remarked erased shifted on_lines blank_from flagged with_keys with_kind_patterns emptied with_layer with_cells with_settings placed member
  obeyed_dots ms (PrintCode c) n e = printed_dots c a
  obeyed_dots ms Clear n e = cleared_dots a
  obeyed_dots ms CursorOff n e = refl
  obeyed_dots ms CursorOn n e = refl
  obeyed_dots ms (Put l c) n e = tracked_far_dots _
  obeyed_dots ms (Charset x) n e = refl
  obeyed_dots ms Copy n e = refl
  obeyed_dots ms EraseLine n e = refl
  obeyed_dots ms EraseRest n e = refl
  obeyed_dots ms SecretOn n e = refl
  obeyed_dots ms SecretOff n e = refl
  obeyed_dots ms (LinesUp x m) n e = refl
  obeyed_dots ms (LinesDown x m) n e = refl
  obeyed_dots ms (Step x) n e = refl
  obeyed_dots ms (Tracking x) n e = refl
  obeyed_dots ms WindowUp n e = topped_dots _ a
  obeyed_dots ms WindowDown n e = topped_dots _ a
  obeyed_dots ms InsOn n e = refl
  obeyed_dots ms InsOff n e = refl
  obeyed_dots ms CapsOn n e = refl
  obeyed_dots ms CapsOff n e = refl
  obeyed_dots ms NumOn n e = refl
  obeyed_dots ms NumOff n e = refl
  obeyed_dots ms StringsOff n e = refl
  obeyed_dots ms StringsOn n e = refl
  obeyed_dots ms (DrawLine p1 p2 p3 p4 p5 p6 p7 p8 p9 p10 p11) n e = absurd (differ e)
  obeyed_dots ms (DrawDot p1 p2 p3 p4) n e = absurd (differ e)
  obeyed_dots ms (Mode0 x y) n e = absurd (differ n)
  obeyed_dots ms (Mode1 x) n e = absurd (differ n)
  obeyed_dots ms (Mode2 x m p) n e = absurd (differ n)
  obeyed_dots ms Mode3 n e = absurd (differ n)
  obeyed_dots ms (Select x) n e = refl
  obeyed_dots ms (Cover r c p) n e = refl
  obeyed_dots ms (Display x) n e = display_dots x a
  obeyed_dots ms WindowTop n e = topped_dots _ a
  obeyed_dots ms WindowBottom n e = topped_dots _ a
  obeyed_dots ms (CursorKind x) n e = refl
  obeyed_dots ms WindowCursor n e = topped_dots _ a
  obeyed_dots ms (Pattern c at) n e = refl
  obeyed_dots ms (Repeat x) n e = refl
  obeyed_dots ms (RepeatDelay x) n e = refl
  obeyed_dots ms (RepeatInterval x) n e = refl
  obeyed_dots ms (Arrows1 c1 c2 c3 c4) n e = refl
  obeyed_dots ms (Arrows2 c1 c2 c3 c4) n e = refl
  obeyed_dots ms (Arrows3 c1 c2 c3 c4) n e = refl
  obeyed_dots ms Nothing n e = refl
  obeyed_dots ms (Shift x) n e = refl

-- what acts on the selected screen alone, in any mode
pub screen_dots : (ms : ℕ → ℕ) (q : Seq) (a : State) → on_screen? q ≡ true → (obeyed ms q a).dots ≡ cleared_if (eqb (code_of q) 42) a
unfolding on_screen? member
screen_dots ms q a h = obeyed_dots a ms q (apart 208 refl) (ap₂ ◌||◌ (apart 198 refl) (ap (λ (b : Bool). b || false) (apart 199 refl)))
  where
    apart : (k : ℕ) → member k on_screen_codes ≡ false → eqb (code_of q) k ≡ false
    apart k e = ne_eqb (code_of q) k (λ f. differ (sym h ∙ ap (λ (c : ℕ). member c on_screen_codes) f ∙ e))

module _ (a : State) (d : a.settings.mode ≡ 3 → ⊥) where
  kept_there : (b : Bool) → cleared_if b a ≡ a.dots
  unfolding dots_cleared
  kept_there true = ap (λ (b : Bool). cond b (replicate 3840 0) a.dots) (ne_eqb a.settings.mode 3 d)
  kept_there false = refl

  -- what draws is idle here
  awake : (c : ℕ) → idle? a.settings.mode c ≡ false → member c drawing ≡ false
  unfolding idle?
  awake c e = sym (ap (λ (b : Bool). cond b (member c idle_there) (member c drawing)) (ne_eqb a.settings.mode 3 d)) ∙ e

  item_dots : (ms : ℕ → ℕ) (i : Item) → is_mode i ≡ false → Stays a (apply_item ms i a)
  unfolding apply_item
  item_dots ms (Printed c) n = printed_dots c a
  item_dots ms (Control c) n = control_dots a c ∙ kept_there (eqb c 12)
  item_dots ms (Sequence q) n = cond_at (Stays a) (idle? a.settings.mode (code_of q)) a (obeyed ms q a) (λ e. refl) (λ e. obeyed_dots a ms q n (awake (code_of q) e) ∙ kept_there (eqb (code_of q) 42))
  item_dots ms (Refused k p) n = refl

  pub event_dots : (e : Event) → sets_mode e ≡ false → Stays a (happened e a)
  unfolding happened lined texted with_settings
  event_dots (item_read r) n = item_dots (byte_of r) r.item n
  event_dots (line_left w k) n = refl
  event_dots (key_set k x) n = refl
