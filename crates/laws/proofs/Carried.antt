-- P9: "settings carry it": no item and no event moves the rule.
use mathlib.Core.Path.{◌∙◌, ◌≡◌, refl}
use Prim.Native.Nat.{◌+◌, ◌-◌, max, ℕ}
use mathlib.Core.Bool.{Bool, ◌&&◌, cond, false, true}
use mathlib.Core.List.{List, [], ◌∷◌}
use lib.Dec.{eqb, ltb}
use Rattle.model.specs.declared.Item.{Item}
use Rattle.model.specs.declared.Item.TheVariants.{Control, Printed, Refused, Sequence}
use Rattle.model.specs.declared.Sequence.{Sequence as Seq}
use Rattle.model.specs.declared.Sequence.TheVariants.{Arrows1, Arrows2, Arrows3, CapsOff, CapsOn, Charset, Clear, Copy, CursorKind, CursorOff, CursorOn, Display, DrawDot, DrawLine, EraseLine, EraseRest, InsOff, InsOn, LinesDown, LinesUp, Cover, Mode0, Mode1, Mode2, Mode3, Nothing, NumOff, NumOn, Pattern, PrintCode, Put, Repeat, RepeatDelay, RepeatInterval, SecretOff, SecretOn, Select, Shift, Step, StringsOff, StringsOn, Tracking, WindowBottom, WindowCursor, WindowDown, WindowTop, WindowUp}
use Rattle.model.specs.State.{State, put_at, top_at, late_at}
use Rattle.model.specs.Screens.{columns_here, height, here, lines_here}
use Rattle.model.specs.Sequences.{code_of, idle?}
use Rattle.model.specs.Reading.{byte_of}
use Rattle.model.specs.Rules.{apply_item, late_step, blank_from, centred, cleared, control, displaying, down, emptied, erased, flagged, held, key_line, lifted, missed, mode_set, nearest, obeyed, on_lines, onward, placed, printed, remarked, right, runs_on, shifted, stored, to_column, topped, tracked, tracked_far, with_cells, with_dots, with_keys, with_kind_patterns, with_layer, with_settings}
use Rattle.model.specs.Items.{Event, apply_all, happened, item_read, key_set, line_left, lined, texted}

-- the rule of what stands
abbrev rule_of : State → ℕ
rule_of st = st.settings.rule

-- a test between two that keep it
cond_rule : (b : Bool) (x y : State) (n : ℕ) → rule_of x ≡ n → rule_of y ≡ n → rule_of (cond b x y) ≡ n
cond_rule true x y n p q = p
cond_rule false x y n p q = q

topped_rule : (t : ℕ) (st : State) → rule_of (topped t st) ≡ rule_of st
unfolding topped emptied with_layer placed
topped_rule t st = cond_rule (eqb t (here st).top) st (emptied (placed (top_at t (here st)) st)) (rule_of st) refl refl

tracked_rule : (st : State) → rule_of (tracked st) ≡ rule_of st
unfolding tracked
tracked_rule st = cond_rule (eqb st.settings.tracking 1 && missed st) (topped (nearest st) st) st (rule_of st) (topped_rule (nearest st) st) refl

tracked_far_rule : (st : State) → rule_of (tracked_far st) ≡ rule_of st
unfolding tracked_far
tracked_far_rule st = cond_rule (eqb st.settings.tracking 1 && missed st) (topped (centred st) st) st (rule_of st) (topped_rule (centred st) st) refl

down_rule : (st : State) → rule_of (down st) ≡ rule_of st
unfolding down lifted remarked on_lines emptied with_layer with_cells placed with_settings
down_rule st = cond_rule (ltb (here st).line (lines_here st)) _ _ (rule_of st) refl refl

onward_rule : (st : State) → rule_of (onward st) ≡ rule_of st
unfolding onward runs_on remarked with_settings to_column placed
onward_rule st = down_rule (to_column 1 st)

right_rule : (st : State) → rule_of (right st) ≡ rule_of st
unfolding right to_column placed
right_rule st =
    cond_rule (ltb (here st).column (columns_here st)) (to_column ((here st).column + 1) st) _ (rule_of st) refl
    (cond_rule (eqb (rule_of st) 2) (placed (late_at (here st)) st) (onward st) (rule_of st) refl (onward_rule st))

late_step_rule : (st : State) → rule_of (late_step st) ≡ rule_of st
unfolding late_step
late_step_rule st = cond_rule (eqb (here st).late 1) (onward st) st (rule_of st) (onward_rule st) refl

printed_rule : (c : ℕ) (st : State) → rule_of (printed c st) ≡ rule_of st
unfolding printed stored
printed_rule c st = tracked_rule (right (stored c (late_step st))) ∙ right_rule (stored c (late_step st)) ∙ late_step_rule st

control_rule : (c : ℕ) (st : State) → rule_of (control c st) ≡ rule_of st
unfolding control to_column cleared with_dots remarked on_lines emptied with_layer with_cells placed with_settings
control_rule c st =
    cond_rule (eqb c 8) _ _ (rule_of st) (tracked_rule (to_column (max 1 ((here st).column - 1)) st))
    (cond_rule (eqb c 10) _ _ (rule_of st) (tracked_rule (down st) ∙ down_rule st)
    (cond_rule (eqb c 13) _ _ (rule_of st) (tracked_rule (to_column 1 st)) (cond_rule (eqb c 12) (cleared st) st (rule_of st) refl refl)))

-- every sequence: most name the other settings one by one
obeyed_rule : (ms : ℕ → ℕ) (q : Seq) (st : State) → rule_of (obeyed ms q st) ≡ rule_of st
unfolding obeyed key_line displaying cleared with_dots remarked erased shifted on_lines blank_from mode_set flagged with_keys with_kind_patterns emptied with_layer with_cells placed with_settings
obeyed_rule ms (PrintCode c) st = printed_rule c st
obeyed_rule ms Clear st = refl
obeyed_rule ms CursorOff st = refl
obeyed_rule ms CursorOn st = refl
obeyed_rule ms (Put l c) st = tracked_far_rule (placed (put_at (l - 31) (c - 31) (here st)) st)
obeyed_rule ms (Charset n) st = refl
obeyed_rule ms Copy st = refl
obeyed_rule ms EraseLine st = refl
obeyed_rule ms EraseRest st = refl
obeyed_rule ms SecretOn st = refl
obeyed_rule ms SecretOff st = refl
obeyed_rule ms (LinesUp a m) st = refl
obeyed_rule ms (LinesDown a m) st = refl
obeyed_rule ms (Step n) st = refl
obeyed_rule ms (Tracking n) st = refl
obeyed_rule ms WindowUp st = topped_rule (held ((here st).top - st.settings.step) st) st
obeyed_rule ms WindowDown st = topped_rule (held ((here st).top + st.settings.step) st) st
obeyed_rule ms InsOn st = refl
obeyed_rule ms InsOff st = refl
obeyed_rule ms CapsOn st = refl
obeyed_rule ms CapsOff st = refl
obeyed_rule ms NumOn st = refl
obeyed_rule ms NumOff st = refl
obeyed_rule ms StringsOff st = refl
obeyed_rule ms StringsOn st = refl
obeyed_rule ms (DrawLine p1 p2 p3 p4 p5 p6 p7 p8 p9 p10 p11) st = refl
obeyed_rule ms (DrawDot p1 p2 p3 p4) st = refl
obeyed_rule ms (Mode0 a b) st = refl
obeyed_rule ms (Mode1 a) st = refl
obeyed_rule ms (Mode2 a m p) st = refl
obeyed_rule ms Mode3 st = refl
obeyed_rule ms (Select n) st = refl
obeyed_rule ms (Cover r c p) st = refl
obeyed_rule ms (Display n) st = cond_rule (eqb n st.settings.display) st _ (rule_of st) refl refl
obeyed_rule ms WindowTop st = topped_rule 1 st
obeyed_rule ms WindowBottom st = topped_rule (lines_here st + 1 - height st.settings) st
obeyed_rule ms (CursorKind n) st = refl
obeyed_rule ms WindowCursor st = topped_rule (centred st) st
obeyed_rule ms (Pattern c at) st = refl
obeyed_rule ms (Repeat n) st = refl
obeyed_rule ms (RepeatDelay n) st = refl
obeyed_rule ms (RepeatInterval n) st = refl
obeyed_rule ms (Arrows1 c1 c2 c3 c4) st = refl
obeyed_rule ms (Arrows2 c1 c2 c3 c4) st = refl
obeyed_rule ms (Arrows3 c1 c2 c3 c4) st = refl
obeyed_rule ms Nothing st = refl
obeyed_rule ms (Shift n) st = refl

pub item_rule : (ms : ℕ → ℕ) (i : Item) (st : State) → rule_of (apply_item ms i st) ≡ rule_of st
unfolding apply_item
item_rule ms (Printed c) st = printed_rule c st
item_rule ms (Control c) st = control_rule c st
item_rule ms (Sequence q) st = cond_rule (idle? st.settings.mode (code_of q)) st (obeyed ms q st) (rule_of st) refl (obeyed_rule ms q st)
item_rule ms (Refused n p) st = refl

pub event_rule : (e : Event) (st : State) → rule_of (happened e st) ≡ rule_of st
unfolding happened lined texted with_settings
event_rule (item_read r) st = item_rule (byte_of r) r.item st
event_rule (line_left w n) st = refl
event_rule (key_set k x) st = refl

pub events_rule : (es : List Event) (st : State) → rule_of (apply_all es st) ≡ rule_of st
unfolding apply_all
events_rule [] st = refl
events_rule (e ∷ es) st = events_rule es (happened e st) ∙ event_rule e st
