-- The cursor: storing where it stands, and moving it.
use mathlib.Core.Path.{◌∙◌, ◌≡◌, refl}
use Prim.Native.Nat.{◌+◌, ◌-◌, ◌<◌, ◌≤◌, max, ℕ}
use native.Mathlib.Omega.{arith}
use mathlib.Core.Bool.{Bool, ◌&&◌}
use mathlib.Core.List.{List}
use lib.ListN.{length-set, set}
use lib.Dec.{eqb, ltb}
use borrow.Author.Tests.{eq-eqb, eqb-true, le-ltb, lt-ltb, ne_eqb}
use Rattle.model.specs.declared.Place.{Place}
use Rattle.model.specs.State.{State, put_at, state, late_at}
use Rattle.model.specs.Screens.{columns_here, here, lines_here}
use Rattle.model.specs.Marks.{running_on}
use Rattle.model.specs.Sound.{most_late}
use Rattle.model.specs.Rules.{late_step, control, down, lifted, onward, placed, remarked, right, runs_on, stored, to_column, empty_at}
use Rattle.ground.specs.declared.Frame.{Frame}
use Rattle.model.proofs.Tests.{and_right, cond_at}
use Rattle.ground.specs.Frame.{Ready, Stands}
use Rattle.ground.specs.Acts.{Acts, ActsWith, Reads}
use Rattle.ground.specs.Logical.{Remarks}
use Rattle.ground.specs.Here.{cell_in, shown_here}
use Rattle.ground.proofs.Acting.{at_value, likewise, stays, still, when_false, when_true}
use Rattle.ground.proofs.Carried.{at_value_with, remarked_acts, then_with, unmarked_acts, when_false_with, when_true_with}
use Rattle.ground.proofs.Steps.{cell_is, cursor_acts, here_is, moved, placed_acts, put_stands, emptied_layer}

-- tests: the cursor's line is above the last, its column before the last
line_test : {f : Frame} {p : Place} {b : Bool} → ltb p.line f.lines ≡ b → Reads (λ (st : State). ltb (here st).line (lines_here st)) f p b
line_test h st e k = rw (k, ← e.lines_are) h

column_test : {f : Frame} {p : Place} {b : Bool} → ltb p.column f.columns ≡ b → Reads (λ (st : State). ltb (here st).column (columns_here st)) f p b
column_test h st e k = rw (k, ← e.columns_are) h

-- P9: the rule is the late one; the cursor is late
rule_test : {f : Frame} {p : Place} {b : Bool} → eqb f.rule 2 ≡ b → Reads (λ (st : State). eqb st.settings.rule 2) f p b
rule_test h st e k = rw (← e.rule_is) h

flag_test : {f : Frame} {p : Place} {b : Bool} → eqb p.late 1 ≡ b → Reads (λ (st : State). eqb (here st).late 1) f p b
flag_test h st e k = rw k h

-- storing, and another line or column
module _ {f : Frame} {p : Place} {c l : List ℕ} (h : Ready f p c l) where
  -- 61
  pub put_acts : {r : Place} (line column : ℕ) → 1 ≤ line → line ≤ f.lines → 1 ≤ column → column ≤ f.columns → r ≡ put_at line column p
      → Acts (λ (st : State). placed (put_at line column (here st)) st) f p r c l c l
  put_acts line column = cursor_acts h (λ (x : Place). line) (λ (x : Place). column)

  pub column_acts : {r : Place} (column : ℕ) → 1 ≤ column → column ≤ f.columns → r ≡ put_at p.line column p → Acts (to_column column) f p r c l c l
  unfolding to_column
  column_acts column = cursor_acts h (λ (x : Place). x.line) (λ (x : Place). column) h.stands.fits.line_low h.stands.fits.line_high

  -- code 8
  pub back_acts : {r : Place} {n : ℕ} → n ≡ max 1 (p.column - 1) → r ≡ put_at p.line n p → Acts (λ (st : State). to_column (max 1 ((here st).column - 1)) st) f p r c l c l
  back_acts a k =
      at_value (λ (x : Place) (st : State). to_column (max 1 (x.column - 1)) st) here_is
      (column_acts (max 1 (p.column - 1)) (omega arith) (omega (arith, h.stands.fits)) (rw a at k))

  pub stored_acts : (code : ℕ) {m n : ℕ} {l' : List ℕ} → m ≡ cell_in f p → Reads shown_here f p n → l' ≡ empty_at n l → Acts (stored code) f p p c l (set c m code) l'
  unfolding stored
  stored_acts code {m} {n} a shown b =
      stays (record { stands = h.stands; cells_are = length-set c m code ∙ h.cells_are; layer_are = emptied_layer n h.layer_are b })
      (λ s ds e i. rw (cell_is (state s c l ds) e i, shown (state s c l ds) e i, a, b))

-- P9: a cursor is late in the last column under rule 2, and nowhere else
late_stands : {f : Frame} {p : Place} → Stands f p → f.columns ≤ p.column → f.rule ≡ 2 → Stands f (late_at p)
late_stands {f} {p} h k e =
    let w : 1 ≤ most_late f.rule f.columns p.column = rw (eq-eqb f.rule 2 e, eq-eqb p.column f.columns (omega (arith, h.fits))) (omega arith) in
    moved h (record { line_low = h.fits.line_low; line_high = h.fits.line_high; column_low = h.fits.column_low; column_high = h.fits.column_high; top_low = h.fits.top_low; top_high = h.fits.top_high; waits = w })

pub late_not : {f : Frame} {p : Place} → Stands f p → p.column < f.columns → p.late ≡ 0
late_not {f} {p} h k =
    cond_at (λ (x : ℕ). p.late ≤ x → p.late ≡ 0) (eqb f.rule 2 && eqb p.column f.columns) 1 0
    (λ e i. absurd (omega (arith, eqb-true p.column f.columns (and_right (eqb f.rule 2) (eqb p.column f.columns) e)))) (λ e i. omega arith) h.fits.waits

-- "one line down", "moves right"
module _ {f : Frame} {p : Place} {c l : List ℕ} where
  pub down_moves : {r : Place} → Ready f p c l → p.line < f.lines → r ≡ put_at (p.line + 1) p.column p → Acts down f p r c l c l
  unfolding down
  down_moves h k j =
      when_true _ (line_test (lt-ltb p.line f.lines k))
      (cursor_acts h (λ (x : Place). x.line + 1) (λ (x : Place). x.column) (omega arith) (omega arith) h.stands.fits.column_low h.stands.fits.column_high j)

  -- after a lift the cursor is put where it stands
  pub down_lifts : {r : Place} {m c' l' m' : List ℕ} → f.lines ≤ p.line → ActsWith lifted f p p c l m c' l' m' → r ≡ put_at p.line p.column p → ActsWith down f p r c l m c' l' m'
  unfolding down
  down_lifts k a j =
      let h : Stands f p = a.ready.stands in
      when_false_with _ (line_test (le-ltb p.line f.lines k))
      (rw j (at_value_with (λ (x : Place) (st : State). placed (put_at x.line x.column x) (lifted st)) here_is
      (then_with a (unmarked_acts a.marks_are (placed_acts a.ready (put_at p.line p.column p) (put_stands h h.fits.line_low h.fits.line_high h.fits.column_low h.fits.column_high refl))))))

  pub right_steps : {r : Place} → Ready f p c l → p.column < f.columns → r ≡ put_at p.line (p.column + 1) p → Acts right f p r c l c l
  unfolding right
  right_steps h k j =
      when_true _ (column_test (lt-ltb p.column f.columns k))
      (at_value (λ (x : Place) (st : State). to_column (x.column + 1) st) here_is (column_acts h (p.column + 1) (omega arith) (omega arith) j))

  -- P9: in the last column, by the rule
  pub right_late : {r : Place} → Ready f p c l → f.columns ≤ p.column → f.rule ≡ 2 → r ≡ late_at p → Acts right f p r c l c l
  unfolding right
  right_late h k e j =
      when_false _ (column_test (le-ltb p.column f.columns k))
      (when_true _ (rule_test (eq-eqb f.rule 2 e)) (rw j (at_value (λ (x : Place) (st : State). placed (late_at x) st) here_is (placed_acts h (late_at p) (late_stands h.stands k e)))))

  pub right_wraps : {r : Place} {m c' l' m' : List ℕ} → f.columns ≤ p.column → (f.rule ≡ 2 → ⊥) → ActsWith onward f p r c l m c' l' m' → ActsWith right f p r c l m c' l' m'
  unfolding right
  right_wraps k e a = when_false_with _ (column_test (le-ltb p.column f.columns k)) (when_false_with _ (rule_test (ne_eqb f.rule 2 e)) a)

  -- P9: the step that waited
  pub late_step_steps : {r : Place} {m c' l' m' : List ℕ} → p.late ≡ 1 → ActsWith onward f p r c l m c' l' m' → ActsWith late_step f p r c l m c' l' m'
  unfolding late_step
  late_step_steps k a = when_true_with _ (flag_test (eq-eqb p.late 1 k)) a

  pub late_step_still : Ready f p c l → (p.late ≡ 1 → ⊥) → Acts late_step f p p c l c l
  unfolding late_step
  late_step_still h k = when_false _ (flag_test (ne_eqb p.late 1 k)) (still h)

  -- P5: the line above the cursor's is marked after the step
  pub onward_marks : {r : Place} {m c' l' m₁ m₂ : List ℕ} → ActsWith (λ (st : State). down (to_column 1 st)) f p r c l m c' l' m₁ → Remarks f.screen (running_on (r.line - 1)) m₁ m₂ → ActsWith onward f p r c l m c' l' m₂
  unfolding onward runs_on
  onward_marks {r} a w = then_with a (at_value_with (λ (x : Place) (st : State). remarked (running_on (x.line - 1)) st) here_is (remarked_acts a.ready (running_on (r.line - 1)) a.marks_are w))

  -- "other codes do nothing"
  pub no_code : (n : ℕ) → Ready f p c l → (n ≡ 8 → ⊥) → (n ≡ 10 → ⊥) → (n ≡ 13 → ⊥) → (n ≡ 12 → ⊥) → Acts (control n) f p p c l c l
  unfolding control
  no_code n h a b d e = likewise (λ s ds i j. rw (ne_eqb n 8 a, ne_eqb n 10 b, ne_eqb n 13 d, ne_eqb n 12 e)) (still h)
