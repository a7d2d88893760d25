-- Lines and cells of the screen that change at once, with the layer emptied, and the marks of these lines.
use mathlib.Core.Path.{◌∙◌, ◌≡◌, ap, sym}
use Prim.Native.Nat.{◌*◌, ◌+◌, ◌-◌, ◌<◌, ◌≤◌, ℕ}
use native.Mathlib.Omega.{arith}
use mathlib.Core.List.{List}
use lib.ListN.{get_or, length, replicate}
use Rattle.model.specs.declared.Place.{Place}
use Rattle.model.specs.Bytes.{blanked, on_part, scrolled_up}
use Rattle.model.specs.State.{State, home, state}
use Rattle.model.specs.Screens.{columns_here, here, lines_here}
use Rattle.model.specs.Marks.{end_of, end_unmarked, mark_in, mark_of, marks_up, unmarked_from}
use Rattle.model.specs.Rules.{with_dots, blank_from, cleared, emptied, erased, lifted, marks_here, on_lines, placed, remarked, shifted, with_cells}
use Rattle.model.proofs.ByteLaws.{length-blanked, length-on_part}
use Rattle.model.proofs.Keep.{lines_inside}
use Rattle.ground.specs.declared.Frame.{Frame}
use Rattle.ground.specs.Frame.{Ready}
use Rattle.ground.specs.Acts.{Acts, ActsWith, except_dots}
use Rattle.ground.specs.Here.{cell_in}
use Rattle.ground.specs.Logical.{Remarks}
use Rattle.ground.proofs.Acting.{at_value, likewise, then}
use Rattle.ground.proofs.Carried.{at_value_with, dots_aside, likewise_with, remarked_acts, then_with, unmarked_acts}
use Rattle.ground.proofs.LogicalLaws.{ends_alone, remarks_length, remarks_then}
use Rattle.ground.proofs.Steps.{cell_is, cells_acts, emptied_acts, moved, placed_acts}

-- the rules' own order: the cells, then the layer
module _ {f : Frame} {p : Place} {c l c' l' : List ℕ} (h : Ready f p c l) (k : l' ≡ replicate 1280 0) where
  part_acts : (from count : ℕ) (g : List ℕ → List ℕ) → ((ys : List ℕ) → length (g ys) ≡ length ys) → from + count ≤ 3840
      → c' ≡ on_part from count g c → Acts (λ (st : State). emptied (with_cells (on_part from count g c) st)) f p p c l c' l'
  part_acts from count g keeps room j =
      let n : length c' ≡ length c = ap length j ∙ length-on_part from count g keeps c (omega (arith, h.cells_are)) in
      let a : Acts (with_cells c') f p p c l c' l = cells_acts h c' n in
      likewise (λ s ds e i. ap (λ (x : List ℕ). emptied (with_cells x (state s c l ds))) (sym j)) (then a (emptied_acts a.ready k))

  lines_acts : (from count : ℕ) (g : List ℕ → List ℕ) → ((ys : List ℕ) → length (g ys) ≡ length ys) → from + count ≤ f.lines
      → c' ≡ on_part (f.base + from * f.columns) (count * f.columns) g c → Acts (on_lines from count g) f p p c l c' l'
  unfolding on_lines
  lines_acts from count g keeps fits j =
      likewise (λ s ds e i. rw (← e.base_is, ← e.columns_are))
      (part_acts (f.base + from * f.columns) (count * f.columns) g keeps (omega (arith, h.stands.among, lines_inside f.columns from count f.lines fits)) j)

  -- 144, 145 and a lift: g by the width of a line
  pub lines_move : {n m w : ℕ} (from count : ℕ) (g : ℕ → List ℕ → List ℕ) → ((v : ℕ) (ys : List ℕ) → length (g v ys) ≡ length ys) → from + count ≤ f.lines
      → n ≡ from * f.columns → m ≡ count * f.columns → w ≡ f.columns → c' ≡ on_part (f.base + n) m (g w) c → Acts (λ (st : State). on_lines from count (g (columns_here st)) st) f p p c l c' l'
  lines_move from count g keeps fits a b d j =
      at_value (λ (v : ℕ) (st : State). on_lines from count (g v) st) (λ st e i. sym e.columns_are) (lines_acts from count (g f.columns) (keeps f.columns) fits (rw (a, b, d) at j))

  -- 42
  pub cleared_acts : {n : ℕ} {r : Place} {m m' : List ℕ} → n ≡ f.lines * f.columns → c' ≡ on_part f.base n blanked c → length m ≡ 2 → Remarks f.screen (unmarked_from 1 f.lines) m m' → r ≡ home
      → ActsWith (except_dots cleared) f p r c l m c' l' m'
  unfolding cleared with_dots
  cleared_acts a j k w g =
      let d : f.base ≡ f.base + 0 * f.columns = omega arith in
      let z : Acts (on_lines 0 f.lines blanked) f p p c l c' l' = lines_acts 0 f.lines blanked length-blanked (omega arith) (rw (a, d) at j) in
      dots_aside {rule = λ (st : State). placed home (remarked (unmarked_from 1 (lines_here st)) (on_lines 0 (lines_here st) blanked st))} (rw g (then_with (at_value_with (λ (n : ℕ) (st : State). remarked (unmarked_from 1 n) (on_lines 0 n blanked st)) (λ st e i. sym e.lines_are) (then_with (unmarked_acts k z) (remarked_acts z.ready (unmarked_from 1 f.lines) k w)))
      (unmarked_acts (remarks_length w ∙ k) (placed_acts z.ready home (moved h.stands (record { line_low = omega arith; line_high = omega (arith, h.stands.fits); column_low = omega arith; column_high = h.stands.columns_low; top_low = omega arith; top_high = omega (arith, h.stands.height_high); waits = omega arith }))))))

  -- 84, 89
  pub blank_acts : {n : ℕ} (count : ℕ) → cell_in f p + count ≤ 3840 → n ≡ cell_in f p → c' ≡ on_part n count blanked c → Acts (blank_from count) f p p c l c' l'
  unfolding blank_from
  blank_acts count room a j = likewise (λ s ds e i. rw (cell_is (state s c l ds) e i)) (part_acts (cell_in f p) count blanked length-blanked room (rw a at j))

-- P5: cells and layer first, then the marks
module _ {f : Frame} {p : Place} {c l m c' l' m' : List ℕ} (n : length m ≡ 2) where
  -- a lift
  pub lifted_acts : Acts (λ (st : State). on_lines 0 f.lines (scrolled_up (columns_here st)) st) f p p c l c' l' → Remarks f.screen (marks_up 0 f.lines) m m' → ActsWith lifted f p p c l m c' l' m'
  unfolding lifted
  lifted_acts a w =
      at_value_with (λ (k : ℕ) (st : State). remarked (marks_up 0 k) (on_lines 0 k (scrolled_up (columns_here st)) st)) (λ st e i. sym e.lines_are)
      (then_with (unmarked_acts n a) (remarked_acts a.ready (marks_up 0 f.lines) n w))

  -- 144, 145
  pub shifted_acts : {m₁ : List ℕ} → f.screen < 2 → (from count : ℕ) (g : ℕ → List ℕ → List ℕ) (h : (ℕ → ℕ) → ℕ → ℕ) → Acts (λ (st : State). on_lines from count (g (columns_here st)) st) f p p c l c' l' → Remarks f.screen h m m₁ → Remarks f.screen (end_unmarked from count) m₁ m'
      → ActsWith (λ (st : State). shifted from count (g (columns_here st)) h st) f p p c l m c' l' m'
  unfolding shifted
  shifted_acts low from count g h a x y = then_with (unmarked_acts n a) (remarked_acts a.ready (λ ms. end_unmarked from count (h ms)) n (remarks_then (omega arith) x y (ends_alone from count)))

  -- 84, 89
  pub erased_acts : {k : ℕ} (to : ℕ) → k ≡ (to - p.line) * f.columns + (f.columns + 1 - p.column) → Acts (blank_from k) f p p c l c' l' → Remarks f.screen (unmarked_from p.line to) m m' → ActsWith (erased to) f p p c l m c' l' m'
  unfolding erased
  erased_acts to h a w =
      likewise_with (λ s ds e i j.
      let st : State = state s c l ds in
      ap (λ (x : Place). remarked (unmarked_from x.line to) (blank_from ((to - x.line) * columns_here st + (columns_here st + 1 - x.column)) st)) i
      ∙ ap (λ (v : ℕ). remarked (unmarked_from p.line to) (blank_from ((to - p.line) * v + (v + 1 - p.column)) st)) (sym e.columns_are)
      ∙ ap (λ (v : ℕ). remarked (unmarked_from p.line to) (blank_from v st)) (sym h))
      (then_with (unmarked_acts n a) (remarked_acts a.ready (unmarked_from p.line to) n w))

module _ {f : Frame} {p : Place} {c l m c' l' m' : List ℕ} where
  -- 84: the line where it ends is found by the marks
  pub erased_line : {to : ℕ} → to ≡ end_of (mark_in (get_or m f.screen 0)) f.lines p.line → ActsWith (erased to) f p p c l m c' l' m' → ActsWith (λ (st : State). erased (end_of (marks_here st) (lines_here st) (here st).line) st) f p p c l m c' l' m'
  unfolding mark_of
  erased_line h a =
      likewise_with (λ s ds e i k.
      ap (λ (x : ℕ). erased x (state s c l ds)) ((λ j. end_of (λ o. mark_in (get_or (k j) (sym e.screen_is j) 0) o) (sym e.lines_are j) (i j).line) ∙ sym h)) a

  -- 89
  pub erased_rest : ActsWith (erased f.lines) f p p c l m c' l' m' → ActsWith (λ (st : State). erased (lines_here st) st) f p p c l m c' l' m'
  erased_rest a = at_value_with erased (λ st e i. sym e.lines_are) a
