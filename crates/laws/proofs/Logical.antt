-- P5, what the rules make of marks and cells, line by line, for the code and for a reader: 84 and 89, 144 and 145, a lift, and the step to
-- the next line. The marks of the other screen are in Marking, `mark-other`.
use mathlib.Core.Path.{◌∙◌, ◌≡◌, ap, refl, subst, sym}
use Prim.Native.Nat.{◌*◌, ◌+◌, ◌-◌, ◌<◌, ◌≤◌, ℕ}
use native.Mathlib.Nat.{zero-add, zero-mul}
use native.Mathlib.Omega.{arith}
use mathlib.Core.Bool.{Bool, ◌&&◌, ◌||◌, cond, false, true}
use mathlib.Core.List.{List}
use lib.Dec.{eqb, leb, ltb}
use borrow.Author.Tests.{eqb-true, le-ltb, leb-false, lt-ltb, ltb-true}
use Rattle.model.specs.declared.Place.{Place}
use Rattle.model.specs.declared.Sequence.TheVariants.{EraseLine}
use Rattle.model.specs.State.{State, put_at}
use Rattle.model.specs.Screens.{columns_here, here, lines_here, lines_of}
use Rattle.model.specs.Marks.{end_unmarked, mark_of, marks_up, running_on, unmarked_from}
use Rattle.model.specs.Sound.{Good}
use Rattle.model.specs.Rules.{blank_from, down, emptied, erased, lifted, marks_here, obeyed, on_lines, onward, placed, remarked, runs_on, shifted, to_column, with_cells, with_layer, with_settings}
use Rattle.model.proofs.Tests.{and_both, cond_at, differ}
use Rattle.model.proofs.MarkLaws.{end_own, last_unmarked}
use Rattle.model.proofs.Keep.{Kept, place_same}
use Rattle.model.proofs.Marking.{bits_ends, bits_here, bits_running, bits_unmarked, bits_up, mark_here}
use Rattle.model.proofs.Steps.{columns_some, fits, kept_down, kept_lifted, kept_to_column, sound_marks}

-- one of three tests
one_of : {P : Type 0} (x y z : Bool) → (x ≡ true → P) → (y ≡ true → P) → (z ≡ true → P) → (x || y || z) ≡ true → P
one_of true y z f g h e = f refl
one_of false true z f g h e = g refl
one_of false false z f g h e = h e

module _ (a : State) (g : Good a) where
  -- 84 in an unmarked line blanks what it blanked before P5
  pub erase_own : (ms : ℕ → ℕ) → marks_here a (here a).line ≡ 0 → (obeyed ms EraseLine a).cells ≡ (blank_from (columns_here a + 1 - (here a).column) a).cells
  unfolding obeyed erased remarked with_settings
  erase_own ms z =
      let n : ℕ = (here a).line in
      let w : ℕ = columns_here a in
      let c : ℕ = columns_here a + 1 - (here a).column in
      let e : n - n ≡ 0 = omega arith in
      ap (λ (l : ℕ). (blank_from ((l - n) * w + c) a).cells) (end_own (marks_here a) (lines_here a) n (fits a g).line_low (fits a g).line_high z)
      ∙ ap (λ (d : ℕ). (blank_from (d * w + c) a).cells) e ∙ ap (λ (d : ℕ). (blank_from d a).cells) (ap (λ (x : ℕ). x + c) (zero-mul w) ∙ zero-add c)

  -- a lift is, of sound marks, what 144 makes of a whole screen: its last two lines are unmarked by then. The mark that is set after it is not
  pub lift_as_144 : (l : ℕ) → 1 ≤ l → l ≤ 48 → end_unmarked 0 (lines_here a) (marks_up 0 (lines_here a) (marks_here a)) l ≡ marks_up 0 (lines_here a) (marks_here a) l
  unfolding end_unmarked marks_up
  lift_as_144 l p q =
      let r : ℕ = lines_here a in
      let m : ℕ → ℕ = marks_here a in
      let up : ℕ = cond (ltb 0 l && leb l (0 + r)) (cond (ltb l (0 + r)) (m (l + 1)) 0) (m l) in
      cond_at (λ (x : ℕ). x ≡ up) (eqb l 0 || eqb l (0 + r - 1) || eqb l (0 + r)) 0 up
      (λ e. let h : r ≤ l + 1 = one_of (eqb l 0) (eqb l (0 + r - 1)) (eqb l (0 + r)) (λ t. omega (arith, eqb-true l 0 t)) (λ t. omega (arith, eqb-true l (0 + r - 1) t)) (λ t. omega (arith, eqb-true l (0 + r) t)) e in
      sym (cond_at (λ (x : ℕ). x ≡ 0) (ltb 0 l && leb l (0 + r)) _ (m l)
      (λ t. cond_at (λ (x : ℕ). x ≡ 0) (ltb l (0 + r)) (m (l + 1)) 0
      (λ u. let v : l < 0 + r = ltb-true l (0 + r) u in last_unmarked r (l + 1) (m (l + 1)) h (sound_marks a g (l + 1) (omega arith))) (λ u. refl))
      (λ t. out t (leb l (0 + r)) refl)))
      (λ e. refl)
    where
      out : (ltb 0 l && leb l (0 + lines_here a)) ≡ false → (b : Bool) → leb l (0 + lines_here a) ≡ b → marks_here a l ≡ 0
      out t true e = absurd (differ (sym (and_both (ltb 0 l) _ (lt-ltb 0 l p) e) ∙ t))
      out t false e = last_unmarked (lines_here a) l (marks_here a l) (omega (arith, leb-false l (0 + lines_here a) e)) (sound_marks a g l p)

  -- the marks of the selected screen after 84 or 89 through line n, after 144 or 145, after a lift
  pub erase_marks : (n : ℕ) → (here a).line ≤ n → n ≤ lines_here a → (l : ℕ) → 1 ≤ l → l ≤ 48 → marks_here (erased n a) l ≡ unmarked_from (here a).line n (marks_here a) l
  unfolding erased blank_from emptied with_layer with_cells remarked with_settings
  erase_marks n p q l r s = mark_here (unmarked_from (here a).line n) a g (bits_unmarked (marks_here a) (bits_here a) (here a).line n) l r s

  pub shift_marks : (x m : ℕ) (f : List ℕ → List ℕ) (h : (ℕ → ℕ) → ℕ → ℕ) → ((l : ℕ) → h (marks_here a) l < 2) → (l : ℕ) → 1 ≤ l → l ≤ 48 → marks_here (shifted x m f h a) l ≡ end_unmarked x m (h (marks_here a)) l
  unfolding shifted on_lines emptied with_layer with_cells remarked with_settings
  shift_marks x m f h b l r s = mark_here (λ ms. end_unmarked x m (h ms)) a g (bits_ends (h (marks_here a)) b x m) l r s

  pub lift_marks : (l : ℕ) → 1 ≤ l → l ≤ 48 → marks_here (lifted a) l ≡ marks_up 0 (lines_here a) (marks_here a) l
  unfolding lifted on_lines emptied with_layer with_cells remarked with_settings
  lift_marks l r s = mark_here (marks_up 0 (lines_here a)) a g (bits_up (marks_here a) (bits_here a) 0 (lines_here a)) l r s

  -- the line above the cursor's runs on
  runs_marks : (l : ℕ) → 1 ≤ l → l ≤ 48 → marks_here (runs_on a) l ≡ running_on ((here a).line - 1) (marks_here a) l
  unfolding runs_on remarked with_settings
  runs_marks l p q = mark_here (running_on ((here a).line - 1)) a g (bits_running (marks_here a) (bits_here a) ((here a).line - 1)) l p q

-- a lift, the cursor put anew where it stands
abbrev lifted_at : State → State
lifted_at b = placed (put_at (here b).line (here b).column (here b)) (lifted b)

-- a step down above the last line, and on it
down_in : (b : State) → (here b).line < lines_here b → down b ≡ placed (put_at ((here b).line + 1) (here b).column (here b)) b
unfolding down
down_in b h = ap (λ (t : Bool). cond t (placed (put_at ((here b).line + 1) (here b).column (here b)) b) (lifted_at b)) (lt-ltb (here b).line (lines_here b) h)

down_last : (b : State) → lines_here b ≤ (here b).line → down b ≡ lifted_at b
unfolding down
down_last b h = ap (λ (t : Bool). cond t (placed (put_at ((here b).line + 1) (here b).column (here b)) b) (lifted_at b)) (le-ltb (here b).line (lines_here b) h)

lifted_line : (b : State) → Good b → (here (lifted_at b)).line ≡ (here b).line
lifted_line b g = ap (λ (p : Place). p.line) (place_same (lifted b) (kept_lifted b g).good (put_at (here b).line (here b).column (here b)))

lifted_same : (b : State) (l : ℕ) → marks_here (lifted_at b) l ≡ marks_here (lifted b) l
unfolding placed mark_of
lifted_same b l = refl

-- "Printing in the last column sets the mark on the line left"
module _ (a : State) (g : Good a) where
  start : Kept a (to_column 1 a)
  start = kept_to_column a g 1 (omega arith) (columns_some a g)

  start_line : (here (to_column 1 a)).line ≡ (here a).line
  unfolding to_column
  start_line = ap (λ (p : Place). p.line) (place_same a g (put_at (here a).line 1 (here a)))

  start_lines : lines_here (to_column 1 a) ≡ lines_here a
  unfolding to_column placed lines_of
  start_lines = refl

  start_lifted : (l : ℕ) → 1 ≤ l → l ≤ 48 → marks_here (lifted (to_column 1 a)) l ≡ marks_up 0 (lines_here a) (marks_here a) l
  unfolding to_column placed mark_of lines_of
  start_lifted l p q = lift_marks (to_column 1 a) start.good l p q

  -- above the last line: that line is marked, the other marks stay
  pub onward_marks : (here a).line < lines_here a → (l : ℕ) → 1 ≤ l → l ≤ 48 → marks_here (onward a) l ≡ running_on (here a).line (marks_here a) l
  unfolding onward to_column placed mark_of
  onward_marks h l p q =
      let b : State = to_column 1 a in
      let new : Place = put_at ((here b).line + 1) (here b).column (here b) in
      let e : down b ≡ placed new b = down_in b (omega (arith, start_line, start_lines)) in
      let n : (here (placed new b)).line ≡ (here b).line + 1 = ap (λ (x : Place). x.line) (place_same b start.good new) in
      ap (λ (x : State). marks_here (runs_on x) l) e ∙ runs_marks (placed new b) (subst Good e (kept_down b start.good).good) l p q
      ∙ ap (λ (k : ℕ). running_on k (marks_here a) l) (omega (arith, n, start_line))

  -- on the last: all marks go up, and that line's is then the last but one's
  pub onward_lifts : (here a).line ≡ lines_here a → (l : ℕ) → 1 ≤ l → l ≤ 48 → marks_here (onward a) l ≡ running_on (lines_here a - 1) (marks_up 0 (lines_here a) (marks_here a)) l
  unfolding onward running_on
  onward_lifts h l p q =
      let b : State = to_column 1 a in
      let e : down b ≡ lifted_at b = down_last b (omega (arith, start_line, start_lines)) in
      let k : ℕ = (here (lifted_at b)).line - 1 in
      let z : k ≡ lines_here a - 1 = omega (arith, lifted_line b start.good, start_line) in
      ap (λ (x : State). marks_here (runs_on x) l) e ∙ runs_marks (lifted_at b) (subst Good e (kept_down b start.good).good) l p q
      ∙ (λ i. cond (eqb l (z i)) 1 ((lifted_same b l ∙ start_lifted l p q) i))
