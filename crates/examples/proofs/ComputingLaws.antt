-- The forms of Computing are the definitions: what an accepted call gives and what a refused one gives (CallLaws), the painting by rows (PaintLaws).
use mathlib.Core.Path.{◌∙◌, ◌≡◌, ap, refl}
use Prim.Native.Nat.{ℕ}
use mathlib.Core.Bool.{Bool, ◌&&◌, cond, false, true}
use mathlib.Core.List.{List, [], ◌∷◌}
use lib.ListN.{replicate}
use Rattle.model.specs.Sound.{Good}
use Rattle.calls.specs.Repaint.{shown_behind}
use Rattle.model.specs.Items.{apply_all}
use Rattle.calls.specs.Calls.{Request, Terminal, granted, all_free, answer_of, events_by, message, none_waits, paints?, printed_by, short?, reads_by, reasons, request, served, sendable, terminal}
use Rattle.calls.specs.Opening.{opened_terminal, ruled}
use Rattle.calls.specs.Lists.{Resumed}
use Rattle.examples.specs.Examples.{Example, Fact, all_hold, all_right, is_right}
use Rattle.examples.specs.Runs.{Run, Turn, all_run, turns_hold}
use Rattle.model.proofs.Tests.{by_test, elim_at}
use Rattle.calls.proofs.PaintLaws.{painted-by_rows}
use Rattle.calls.proofs.CallLaws.{granted_answer, granted_leaves, granted_prints, after, refused_answer, refused_leaves, refused_prints, resumed-opened, sized_good, sound_good}
use Rattle.examples.proofs.Computing.{all_computed, answered, copied_by, left, computed_right, computed_runs, computed_turns, refused_right, served_right}

-- a call
module _ (t : Terminal) (q : Request) where
  granted_left : granted t q ≡ true → served t q ≡ left t q
  unfolding after left
  granted_left e = granted_leaves t q e ∙ (λ i. let st = apply_all (events_by t q) t.state in record { state = st; shown = cond (paints? q.asked) (painted-by_rows st i) (cond (short? q.asked) (shown_behind (reads_by t q) t.state st t.shown) t.shown) })

  granted_right : (fs : List Fact) → granted t q ≡ true → all_hold fs (served t q) (answer_of t q) (printed_by t q) ≡ served_right fs t q
  unfolding served_right answered copied_by
  granted_right fs e = λ i. all_hold fs (granted_left e i) (granted_answer t q e i) (granted_prints t q e i)

  refused_right_lem : (fs : List Fact) → granted t q ≡ false → all_hold fs (served t q) (answer_of t q) (printed_by t q) ≡ refused_right fs t q
  unfolding refused_right
  refused_right_lem fs e = λ i. all_hold fs (refused_leaves t q e i) (refused_answer t q e i) (refused_prints t q e i)

-- examples
opened_grants : (m : List ℕ) (room : ℕ) → granted (opened_terminal 1) (request (message m) room) ≡ sendable m
unfolding granted reasons all_free none_waits ruled
opened_grants m room =
    let r : Resumed (opened_terminal 1) = resumed-opened 1 refl in
    let g : Good (opened_terminal 1).state = record { sound = r.sound; cells_are = r.cells_are; layer_are = r.layer_is; dots_are = r.dots_are } in
    (λ i. sized_good (opened_terminal 1) g r.shown_is i && (sendable m && (sound_good (opened_terminal 1) g i && (true && true))))
    ∙ by_test (λ (b : Bool). (b && true) ≡ b) (sendable m) refl refl

computed_right_lem : (e : Example) → is_right e ≡ computed_right e
unfolding is_right computed_right
computed_right_lem e =
    let q : Request = request (message e.sent) e.room in
    elim_at (λ (b : Bool). is_right e ≡ b) (sendable e.sent) _ _
    (λ s. granted_right (opened_terminal 1) q e.facts (opened_grants e.sent e.room ∙ s)) (λ s. refused_right_lem (opened_terminal 1) q e.facts (opened_grants e.sent e.room ∙ s))

pub all_computed_lem : (es : List Example) → all_right es ≡ all_computed es
unfolding all_right all_computed
all_computed_lem [] = refl
all_computed_lem (e ∷ es) = λ i. elim (computed_right_lem e i) [ true ↦ all_computed_lem es i | false ↦ false ]

-- calls one after the other
computed_turns_lem : (t : Terminal) (xs : List Turn) → turns_hold t xs ≡ computed_turns t xs
unfolding turns_hold computed_turns
computed_turns_lem t [] = refl
computed_turns_lem t (x ∷ xs) =
    let q : Request = request x.asked x.room in
    elim_at (λ (b : Bool). turns_hold t (x ∷ xs) ≡ b) (granted t q) _ _
    (λ e. (λ i. elim (granted_right t q x.facts e i) [ true ↦ turns_hold (granted_left t q e i) xs | false ↦ false ]) ∙ ap (λ (b : Bool). elim (served_right x.facts t q) [ true ↦ b | false ↦ false ]) (computed_turns_lem (left t q) xs))
    (λ e. (λ i. elim (refused_right_lem t q x.facts e i) [ true ↦ turns_hold (refused_leaves t q e i) xs | false ↦ false ]) ∙ ap (λ (b : Bool). elim (refused_right x.facts t q) [ true ↦ b | false ↦ false ]) (computed_turns_lem t xs))

pub computed_runs_lem : (rs : List Run) → all_run rs ≡ computed_runs rs
unfolding all_run computed_runs
computed_runs_lem [] = refl
computed_runs_lem (r ∷ rs) = λ i. elim (computed_turns_lem (terminal r.given (replicate 3840 32) (replicate 1280 0) (replicate 3840 0) (replicate 640 32)) r.turns i) [ true ↦ computed_runs_lem rs i | false ↦ false ]
