-- P9: when the cursor is late, what clears the flag, and that rule 1 is what it was.
use mathlib.Core.Path.{◌∙◌, ◌≡◌, ap, refl, sym}
use Prim.Native.Nat.{◌+◌, ◌-◌, ◌<◌, ◌≤◌, max, ℕ}
use native.Mathlib.Omega.{arith}
use mathlib.Core.Bool.{Bool, ◌&&◌, ◌||◌, cond, false, true}
use lib.Seq.{set-get_or}
use lib.Dec.{eqb, ltb}
use borrow.Author.Tests.{eqb-true, ltb-false, ltb-true, ne_eqb}
use Rattle.model.specs.declared.Place.{Place}
use Rattle.model.specs.declared.Sequence.TheVariants.{Put, Select}
use Rattle.model.specs.State.{State, home, nowhere, put_at, top_at, late_at, with_places}
use Rattle.model.specs.Checks.{InRanges}
use Rattle.model.specs.Screens.{columns_here, here, lines_here, place_of}
use Rattle.model.specs.Sound.{Good, most_late}
use Rattle.model.specs.Judging.{limits_of, ranges}
use Rattle.model.specs.Rules.{late_step, centred, cleared, control, down, emptied, flagged, lifted, missed, nearest, obeyed, on_lines, onward, placed, printed, remarked, right, stored, to_column, topped, tracked, tracked_far, with_cells, with_layer, with_settings, with_dots}
use Rattle.model.proofs.Tests.{and_left, and_right, cond_at, differ}
use Rattle.model.proofs.Keep.{Kept, place_same}
use Rattle.model.proofs.ItemLaws.{kept_put}
use Rattle.model.proofs.Steps.{columns_some, fits, kept_blanked_screen, kept_down, kept_lifted, kept_to_column}

-- "the flag is sound only in the last column under rule 2"
pub late_where : (rule columns column x : ℕ) → x ≤ most_late rule columns column → 1 ≤ x → (rule ≡ 2) × (column ≡ columns)
late_where rule columns column x =
    cond_at (λ (y : ℕ). x ≤ y → 1 ≤ x → (rule ≡ 2) × (column ≡ columns)) (eqb rule 2 && eqb column columns) 1 0
    (λ e p q. (eqb-true rule 2 (and_left (eqb rule 2) (eqb column columns) e), eqb-true column columns (and_right (eqb rule 2) (eqb column columns) e)))
    (λ e p q. absurd (omega arith))

module _ (a : State) (g : Good a) where
  pub late_rule : 1 ≤ (here a).late → (a.settings.rule ≡ 2) × ((here a).column ≡ columns_here a)
  late_rule h = late_where a.settings.rule (columns_here a) (here a).column (here a).late (fits a g).waits h

  late_no : ((a.settings.rule ≡ 2) × ((here a).column ≡ columns_here a) → ⊥) → (here a).late ≡ 0
  late_no h = go (ltb 0 (here a).late) refl
    where
      go : (b : Bool) → ltb 0 (here a).late ≡ b → (here a).late ≡ 0
      go true e = absurd (h (late_rule (ltb-true 0 (here a).late e)))
      go false e = omega (arith, ltb-false 0 (here a).late e)

  -- no cursor is late left of the last column (for a line's bytes printed at once), nor under rule 1
  pub late_not : (here a).column < columns_here a → (here a).late ≡ 0
  late_not h = late_no (λ z. omega arith)

  pub late_never : a.settings.rule ≡ 1 → (here a).late ≡ 0
  late_never h = late_no (λ z. omega arith)

-- nothing is awaited where no cursor is late
pub late_step-not : (a : State) → (here a).late ≡ 0 → late_step a ≡ a
unfolding late_step
late_step-not a h = ap (λ (b : Bool). cond b (onward a) a) (ne_eqb (here a).late 1 (λ e. omega arith))

-- the cursor put where it stands
placed_same : (x : State) (p : Place) → here x ≡ p → placed p x ≡ x
unfolding placed place_of
placed_same x p e =
    (λ i. placed (sym e i) x)
    ∙ (λ i. record { settings = with_places x.settings (set-get_or x.settings.places x.settings.selected nowhere i); cells = x.cells; layer = x.layer; dots = x.dots })

-- rule 1 is today's: the move right and the step down of document 01, with P5's marks
abbrev early : State → State
early st = cond (ltb (here st).column (columns_here st)) (to_column ((here st).column + 1) st) (onward st)

pub down_early : (a : State) → (here a).late ≡ 0 → down a ≡ cond (ltb (here a).line (lines_here a)) (placed (put_at ((here a).line + 1) (here a).column (here a)) a) (lifted a)
unfolding down lifted remarked with_settings on_lines emptied with_layer with_cells place_of
down_early a h =
    ap (λ (x : State). cond (ltb (here a).line (lines_here a)) (placed (put_at ((here a).line + 1) (here a).column (here a)) a) x)
    (placed_same (lifted a) (put_at (here a).line (here a).column (here a)) (λ i. record { line = (here a).line; column = (here a).column; top = (here a).top; late = h i }))

pub printed_early : (a : State) → Good a → a.settings.rule ≡ 1 → (c : ℕ) → printed c a ≡ tracked (early (stored c a))
unfolding printed right stored
printed_early a g h c =
    ap (λ (x : State). tracked (right (stored c x))) (late_step-not a (late_never a g h))
    ∙ ap (λ (b : Bool). let x = stored c a in tracked (cond (ltb (here x).column (columns_here x)) (to_column ((here x).column + 1) x) (cond b (placed (late_at (here x)) x) (onward x))))
    (ne_eqb a.settings.rule 2 (λ e. omega arith))

-- what puts the cursor anew clears the flag; a window that moves keeps it
module _ (a : State) (g : Good a) where
  flag_placed : (p : Place) → (here (placed p a)).late ≡ p.late
  flag_placed p = ap (λ (x : Place). x.late) (place_same a g p)

  pub flag_topped : (t : ℕ) → (here (topped t a)).late ≡ (here a).late
  unfolding topped emptied with_layer
  flag_topped t = cond_at (λ (x : State). (here x).late ≡ (here a).late) (eqb t (here a).top) a (emptied (placed (top_at t (here a)) a)) (λ e. refl) (λ e. flag_placed (top_at t (here a)))

  pub flag_tracked : (here (tracked a)).late ≡ (here a).late
  unfolding tracked
  flag_tracked = cond_at (λ (x : State). (here x).late ≡ (here a).late) (eqb a.settings.tracking 1 && missed a) (topped (nearest a) a) a (λ e. flag_topped (nearest a)) (λ e. refl)

  pub flag_tracked_far : (here (tracked_far a)).late ≡ (here a).late
  unfolding tracked_far
  flag_tracked_far = cond_at (λ (x : State). (here x).late ≡ (here a).late) (eqb a.settings.tracking 1 && missed a) (topped (centred a) a) a (λ e. flag_topped (centred a)) (λ e. refl)

  pub flag_column : (c : ℕ) → (here (to_column c a)).late ≡ 0
  unfolding to_column
  flag_column c = flag_placed (put_at (here a).line c (here a))

module _ (a : State) (g : Good a) where
  -- a line step, on the last line too
  pub flag_down : (here (down a)).late ≡ 0
  unfolding down
  flag_down = cond_at (λ (x : State). (here x).late ≡ 0) (ltb (here a).line (lines_here a)) _ _
      (λ e. flag_placed a g (put_at ((here a).line + 1) (here a).column (here a)))
      (λ e. flag_placed (lifted a) (kept_lifted a g).good (put_at (here a).line (here a).column (here a)))

  pub flag_cleared : (here (cleared a)).late ≡ 0
  unfolding cleared with_dots
  flag_cleared = flag_placed _ (kept_blanked_screen a g).good home

  -- "Codes 8, 10, 12, 13 .. clear the flag"
  pub flag_control : (c : ℕ) → (eqb c 8 || eqb c 10 || eqb c 12 || eqb c 13) ≡ true → (here (control c a)).late ≡ 0
  unfolding control
  flag_control c = go (eqb c 8) (eqb c 10) (eqb c 13) (eqb c 12)
    where
      after : (b : State) → Kept a b → (here b).late ≡ 0 → (here (tracked b)).late ≡ 0
      after b k h = flag_tracked b k.good ∙ h

      go : (p q r s : Bool) → (p || q || s || r) ≡ true
          → (here (cond p (tracked (to_column (max 1 ((here a).column - 1)) a)) (cond q (tracked (down a)) (cond r (tracked (to_column 1 a)) (cond s (cleared a) a))))).late ≡ 0
      go true q r s e = after _ (kept_to_column a g (max 1 ((here a).column - 1)) (omega arith) (omega (arith, fits a g))) (flag_column a g (max 1 ((here a).column - 1)))
      go false true r s e = after _ (kept_down a g) flag_down
      go false false true s e = after _ (kept_to_column a g 1 (omega arith) (columns_some a g)) (flag_column a g 1)
      go false false false true e = flag_cleared
      go false false false false e = absurd (differ (sym e))

  -- "and accepted .. 61", onto the last column too
  pub flag_put : (ms : ℕ → ℕ) (l c : ℕ) → InRanges (ranges (Put l c) (limits_of a.settings)) → (here (obeyed ms (Put l c) a)).late ≡ 0
  unfolding obeyed
  flag_put ms l c e = flag_tracked_far _ (kept_put a g l c e).good ∙ flag_placed a g (put_at (l - 31) (c - 31) (here a))

-- "209 does not": both screens' places stay
pub flag_selected : (ms : ℕ → ℕ) (n : ℕ) (a : State) → (obeyed ms (Select n) a).settings.places ≡ a.settings.places
unfolding obeyed emptied flagged with_layer with_settings
flag_selected ms n a = refl
