-- What printing keeps of secret mode, and what sequences that are not wide and not of the selected screen keep of the window's top.
use mathlib.Core.Path.{◌∙◌, ◌≡◌, refl}
use Prim.Native.Nat.{ℕ}
use mathlib.Core.Bool.{◌&&◌, false}
use lib.Dec.{eqb, ltb}
use Rattle.model.specs.declared.Sequence.{Sequence as Seq}
use Rattle.model.specs.declared.Sequence.TheVariants.{Arrows1, Arrows2, Arrows3, CapsOff, CapsOn, Charset, Clear, Copy, CursorKind, CursorOff, CursorOn, Display, DrawDot, DrawLine, EraseLine, EraseRest, InsOff, InsOn, LinesDown, LinesUp, Cover, Mode0, Mode1, Mode2, Mode3, Nothing, NumOff, NumOn, Pattern, PrintCode, Put, Repeat, RepeatDelay, RepeatInterval, SecretOff, SecretOn, Select, Shift, Step, StringsOff, StringsOn, Tracking, WindowBottom, WindowCursor, WindowDown, WindowTop, WindowUp}
use Rattle.model.specs.State.{State}
use Rattle.model.specs.Checks.{member}
use Rattle.model.specs.Screens.{columns_here, here, lines_here, place_of}
use Rattle.model.specs.Sequences.{code_of}
use Rattle.model.specs.Rules.{late_step, down, emptied, flagged, lifted, missed, obeyed, on_lines, onward, placed, printed, remarked, right, runs_on, stored, to_column, topped, tracked, with_cells, with_dots, with_keys, with_kind_patterns, with_layer, with_settings}
use Rattle.model.specs.OnScreen.{on_screen?}
use Rattle.calls.specs.Repaint.{wide_codes}
use Rattle.model.proofs.Tests.{cond_at, differ}

-- the same secret mode
abbrev Hides : State → State → Type 0
Hides a b = b.settings.secret ≡ a.settings.secret

topped_hides : (t : ℕ) (a : State) → Hides a (topped t a)
unfolding topped emptied with_layer placed
topped_hides t a = cond_at (Hides a) (eqb t (here a).top) _ _ (λ e. refl) (λ e. refl)

tracked_hides : (a : State) → Hides a (tracked a)
unfolding tracked
tracked_hides a = cond_at (Hides a) (eqb a.settings.tracking 1 && missed a) _ _ (λ e. topped_hides _ a) (λ e. refl)

down_hides : (a : State) → Hides a (down a)
unfolding down placed lifted remarked on_lines emptied with_layer with_cells with_settings
down_hides a = cond_at (Hides a) (ltb (here a).line (lines_here a)) _ _ (λ e. refl) (λ e. refl)

onward_hides : (a : State) → Hides a (onward a)
unfolding onward runs_on remarked with_settings to_column placed
onward_hides a = down_hides (to_column 1 a)

late_step_hides : (a : State) → Hides a (late_step a)
unfolding late_step
late_step_hides a = cond_at (Hides a) (eqb (here a).late 1) _ _ (λ e. onward_hides a) (λ e. refl)

right_hides : (a : State) → Hides a (right a)
unfolding right to_column placed
right_hides a = cond_at (Hides a) (ltb (here a).column (columns_here a)) _ _ (λ e. refl) (λ e. cond_at (Hides a) (eqb a.settings.rule 2) _ _ (λ f. refl) (λ f. onward_hides a))

pub printed_hides : (c : ℕ) (a : State) → Hides a (printed c a)
unfolding printed stored
printed_hides c a = tracked_hides (right (stored c (late_step a))) ∙ right_hides (stored c (late_step a)) ∙ late_step_hides a

-- a sequence that is not wide and not of the selected screen: the window stays
pub calm_top : (ms : ℕ → ℕ) (q : Seq) (a : State) → member (code_of q) wide_codes ≡ false → on_screen? q ≡ false → (here (obeyed ms q a)).top ≡ (here a).top
unfolding obeyed member on_screen? flagged with_keys with_kind_patterns with_dots with_settings place_of
calm_top ms (PrintCode c) a w o = absurd (differ o)
calm_top ms (Put l c) a w o = absurd (differ o)
calm_top ms CursorOff a w o = refl
calm_top ms CursorOn a w o = refl
calm_top ms (Charset n) a w o = refl
calm_top ms Copy a w o = refl
calm_top ms (Step n) a w o = refl
calm_top ms (Tracking n) a w o = refl
calm_top ms InsOn a w o = refl
calm_top ms InsOff a w o = refl
calm_top ms CapsOn a w o = refl
calm_top ms CapsOff a w o = refl
calm_top ms NumOn a w o = refl
calm_top ms NumOff a w o = refl
calm_top ms StringsOff a w o = refl
calm_top ms StringsOn a w o = refl
calm_top ms (DrawLine p1 p2 p3 p4 p5 p6 p7 p8 p9 p10 p11) a w o = refl
calm_top ms (DrawDot p1 p2 p3 p4) a w o = refl
calm_top ms (CursorKind n) a w o = refl
calm_top ms (Pattern c at) a w o = refl
calm_top ms (Repeat n) a w o = refl
calm_top ms (RepeatDelay n) a w o = refl
calm_top ms (RepeatInterval n) a w o = refl
calm_top ms (Arrows1 c1 c2 c3 c4) a w o = refl
calm_top ms (Arrows2 c1 c2 c3 c4) a w o = refl
calm_top ms (Arrows3 c1 c2 c3 c4) a w o = refl
calm_top ms Nothing a w o = refl
calm_top ms (Shift n) a w o = refl
calm_top ms Clear a w o = absurd (differ w)
calm_top ms EraseLine a w o = absurd (differ w)
calm_top ms EraseRest a w o = absurd (differ w)
calm_top ms SecretOn a w o = absurd (differ w)
calm_top ms SecretOff a w o = absurd (differ w)
calm_top ms (LinesUp x m) a w o = absurd (differ w)
calm_top ms (LinesDown x m) a w o = absurd (differ w)
calm_top ms WindowUp a w o = absurd (differ w)
calm_top ms WindowDown a w o = absurd (differ w)
calm_top ms (Mode0 x y) a w o = absurd (differ w)
calm_top ms (Mode1 x) a w o = absurd (differ w)
calm_top ms (Mode2 x m y) a w o = absurd (differ w)
calm_top ms Mode3 a w o = absurd (differ w)
calm_top ms (Select n) a w o = absurd (differ w)
calm_top ms (Cover r c m) a w o = absurd (differ w)
calm_top ms (Display m) a w o = absurd (differ w)
calm_top ms WindowTop a w o = absurd (differ w)
calm_top ms WindowBottom a w o = absurd (differ w)
calm_top ms WindowCursor a w o = absurd (differ w)
