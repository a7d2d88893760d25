-- The steps that every item is made of keep the state good and leave the screen that is not selected alone.
use mathlib.Core.Path.{◌∙◌, ◌≡◌, ap, refl, subst, sym}
use Prim.Native.Nat.{◌*◌, ◌+◌, ◌-◌, ◌<◌, ◌≤◌, suc, zero, ℕ}
use native.Mathlib.Nat.{add-mul, mul-add, mul-le-mul_right, suc-mul}
use native.Mathlib.Omega.{arith}
use native.Mathlib.Decide.{ℕ_discrete}
use mathlib.Core.Bool.{Bool, cond, false, true}
use mathlib.Core.List.{List}
use lib.ListN.{drop, length, length-replicate, length-set, replicate, set, take}
use lib.Seq.{drop-set-lt, get_or-set_other, get_or-set_same}
use lib.Dec.{eqb}
use borrow.Author.Tests.{eq-eqb, eqb-true}
use Rattle.model.specs.declared.Keys.{Keys}
use Rattle.model.specs.declared.Place.{Place}
use Rattle.model.specs.declared.Settings.{Settings}
use Rattle.model.specs.Bytes.{on_part}
use Rattle.model.specs.State.{State, nowhere, with_stored}
use Rattle.model.specs.Checks.{InRanges, Passes, range}
use Rattle.model.specs.Screens.{base, columns_here, columns_of, height, here, lines_here, lines_of, place_of, screens, size, text_rows}
use Rattle.model.specs.Marks.{mark_of}
use Rattle.model.specs.Sound.{Fits, Good, Inside, Shaped, Sound, array_ranges, key_ranges, mode0, mode1, mode2, plain_ranges, alone_ranges, mode3}
use Rattle.model.specs.Rules.{emptied, flagged, placed, with_cells, with_layer, with_settings, with_dots}
use Rattle.model.proofs.Frames.{SameScreen, Spared, cells_of}
use Rattle.model.proofs.Tests.{cond_at, cond₂, differ}
use Rattle.model.proofs.SoundLaws.{not_alone}
use Rattle.model.proofs.ByteLaws.{length-on_part, on_part_after, on_part_before, set_before}

-- geometry
pub shaped_room : {m l1 l2 c1 c2 : ℕ} → Shaped m l1 l2 c1 c2 → l1 * c1 + l2 * c2 ≤ 3840
shaped_room (mode0 m p q a b c) = rw (p, q) (omega arith)
shaped_room {m} {l1} {l2} {c1} {c2} (mode1 n p q a b c) = rw (p, q, c) (omega arith)
shaped_room (mode3 n p q a b) = rw (p, q, a, b) (omega arith)
shaped_room {m} {l1} {l2} {c1} {c2} (mode2 n p q e a b c) =
    rw (e, c) (rw (← mul-add l1 c1 (79 - c1)) (let z : c1 + (79 - c1) ≡ 79 = omega arith in rw z (omega arith)))

pub shaped_columns : {m l1 l2 c1 c2 : ℕ} → Shaped m l1 l2 c1 c2 → (1 ≤ c1) × (1 ≤ l1)
shaped_columns (mode0 m p q a b c) = omega arith
shaped_columns (mode1 n p q a b c) = omega arith
shaped_columns (mode2 n p q e a b c) = omega arith
shaped_columns (mode3 n p q a b) = omega arith

-- screen 2, outside mode 3
pub second_columns : {m l1 l2 c1 c2 : ℕ} → Shaped m l1 l2 c1 c2 → (m ≡ 3 → ⊥) → (1 ≤ c2) × (1 ≤ l2)
second_columns (mode0 m p q a b c) d = omega arith
second_columns (mode1 n p q a b c) d = omega arith
second_columns (mode2 n p q e a b c) d = omega arith
second_columns (mode3 n p q a b) d = absurd (d n)

pub shaped_height : {m l1 l2 c1 c2 : ℕ} → Shaped m l1 l2 c1 c2 → cond (eqb m 1) 16 8 ≤ l1
shaped_height (mode0 m p q a b c) = rw m (omega arith)
shaped_height (mode1 n p q a b c) = rw n (omega arith)
shaped_height (mode2 n p q e a b c) = rw n (omega arith)
shaped_height (mode3 n p q a b) = rw n (omega arith)

pub second_height : {m l1 l2 c1 c2 : ℕ} → Shaped m l1 l2 c1 c2 → (m ≡ 3 → ⊥) → cond (eqb m 1) 16 8 ≤ l2
second_height (mode0 m p q a b c) d = rw m (omega arith)
second_height (mode1 n p q a b c) d = rw n (omega arith)
second_height (mode2 n p q e a b c) d = rw n (omega arith)
second_height (mode3 n p q a b) d = absurd (d n)

-- P11: one screen in mode 3, else two
pub screens_most : (s : Settings) → screens s ≤ 2
unfolding screens
screens_most s = cond_at (λ (n : ℕ). n ≤ 2) (eqb s.mode 3) 1 2 (λ e. omega arith) (λ e. omega arith)

pub screens_low : (s : Settings) → 1 ≤ screens s
unfolding screens
screens_low s = cond_at (λ (n : ℕ). 1 ≤ n) (eqb s.mode 3) 1 2 (λ e. omega arith) (λ e. omega arith)

pub two_there : (s : Settings) → 1 < screens s → s.mode ≡ 3 → ⊥
unfolding screens
two_there s = cond_at (λ (n : ℕ). 1 < n → s.mode ≡ 3 → ⊥) (eqb s.mode 3) 1 2 (λ e l m. omega arith) (λ e l m. differ (sym (eq-eqb _ 3 m) ∙ e))

pub both_there : (s : Settings) → (s.mode ≡ 3 → ⊥) → screens s ≡ 2
unfolding screens
both_there s d = cond_at (λ (n : ℕ). n ≡ 2) (eqb s.mode 3) 1 2 (λ e. absurd (d (eqb-true _ 3 e))) (λ e. refl)

pub one_there : (s : Settings) → s.mode ≡ 3 → screens s ≡ 1
unfolding screens
one_there s m = rw m refl

pub chosen : (s : Settings) → Sound s → s.selected < 2
chosen s h = omega (arith, h.selected, screens_most s)

-- nothing is asked of screen 2 alone but in mode 3
pub alone_by : (m kind display : ℕ) (p : Place) → (m ≡ 3 → InRanges (alone_ranges m kind display p)) → InRanges (alone_ranges m kind display p)
alone_by m kind display p f = by (eqb m 3) refl
  where
    by : (b : Bool) → eqb m 3 ≡ b → InRanges (alone_ranges m kind display p)
    by true e = f (eqb-true m 3 e)
    by false e = not_alone m kind display p e

-- the rows that show text are seven or eight; only these two proofs know the rule
pub rows_low : (s : Settings) → 7 ≤ text_rows s
unfolding text_rows
rows_low s = cond_at (λ (n : ℕ). 7 ≤ n) (eqb s.display 0) 7 8 (λ e. omega arith) (λ e. omega arith)

pub rows_high : (s : Settings) → text_rows s ≤ 8
unfolding text_rows
rows_high s = cond_at (λ (n : ℕ). n ≤ 8) (eqb s.display 0) 7 8 (λ e. omega arith) (λ e. omega arith)

-- H is these rows, or twice them in mode 1
pub height_low : (s : Settings) → 7 ≤ height s
unfolding height
height_low s = cond_at (λ (n : ℕ). 7 ≤ n) (eqb s.mode 1) (2 * text_rows s) (text_rows s) (λ e. omega (arith, rows_low s)) (λ e. rows_low s)

pub height_high : (s : Settings) → height s ≤ cond (eqb s.mode 1) 16 8
unfolding height
height_high s = cond₂ ◌≤◌ (eqb s.mode 1) (eqb s.mode 1) (2 * text_rows s) (text_rows s) 16 8 refl (λ e. omega (arith, rows_high s)) (λ e. rows_high s)

pub data Apart (b n b' n' : ℕ) : Type 0 where
  earlier : b + n ≤ b' → Apart b n b' n'
  later : b' + n' ≤ b → Apart b n b' n'

module _ (s : Settings) (h : Sound s) where
  pub within : (k : ℕ) → k < 2 → base s k + size s k ≤ 3840
  unfolding base size lines_of columns_of
  within zero l = omega (arith, shaped_room h.shaped)
  within (suc zero) l = shaped_room h.shaped
  within (suc (suc k)) l = absurd (omega arith)

  pub apart : (k j : ℕ) → k < 2 → j < 2 → (k ≡ j → ⊥) → Apart (base s k) (size s k) (base s j) (size s j)
  unfolding base size lines_of columns_of
  apart zero zero k j n = absurd (n refl)
  apart zero (suc zero) k j n = earlier (omega arith)
  apart (suc zero) zero k j n = later (omega arith)
  apart (suc zero) (suc zero) k j n = absurd (n refl)
  apart (suc (suc k)) j l m n = absurd (omega arith)
  apart zero (suc (suc j)) l m n = absurd (omega arith)
  apart (suc zero) (suc (suc j)) l m n = absurd (omega arith)

  pub tall : (k : ℕ) → k < screens s → height s ≤ lines_of s k
  unfolding lines_of
  tall zero l = omega (arith, height_high s, shaped_height h.shaped)
  tall (suc zero) l = omega (arith, height_high s, second_height h.shaped (two_there s l))
  tall (suc (suc k)) l = absurd (omega (arith, screens_most s))

  pub wide : (k : ℕ) → k < screens s → 1 ≤ columns_of s k
  unfolding columns_of
  wide zero l = (shaped_columns h.shaped).0
  wide (suc zero) l = (second_columns h.shaped (two_there s l)).0
  wide (suc (suc k)) l = absurd (omega (arith, screens_most s))

-- what a step of an item keeps
pub record Kept (a b : State) : Type 0 where
  pub good : Good b
  pub same_selected : b.settings.selected ≡ a.settings.selected
  pub same_shape : (k : ℕ) → (lines_of b.settings k ≡ lines_of a.settings k) × (columns_of b.settings k ≡ columns_of a.settings k)
  pub same_tracking : b.settings.tracking ≡ a.settings.tracking
  pub other : (k : ℕ) → k < 2 → (k ≡ a.settings.selected → ⊥) → SameScreen k a b

pub same_refl : (k : ℕ) (a : State) → SameScreen k a a
same_refl k a = record { same_base = refl; same_lines = refl; same_columns = refl; same_height = refl; same_place = refl; same_cells = refl; same_marks = refl }

pub same_trans : {k : ℕ} {a b c : State} → SameScreen k a b → SameScreen k b c → SameScreen k a c
same_trans p q = record { same_base = cc; same_lines = cc; same_columns = cc; same_height = q.same_height ∙ p.same_height; same_place = cc; same_cells = q.same_cells ∙ p.same_cells; same_marks = q.same_marks ∙ p.same_marks }

pub spared_refl : (k : ℕ) (a : State) → Spared k a a
spared_refl k a = record { same_base = refl; same_lines = refl; same_columns = refl; same_line = refl; same_column = refl; same_late = refl; same_cells = refl; same_marks = refl }

pub spared_trans : {k : ℕ} {a b c : State} → Spared k a b → Spared k b c → Spared k a c
spared_trans p q = record { same_base = cc; same_lines = cc; same_columns = cc; same_line = q.same_line ∙ p.same_line; same_column = q.same_column ∙ p.same_column; same_late = q.same_late ∙ p.same_late; same_cells = q.same_cells ∙ p.same_cells; same_marks = q.same_marks ∙ p.same_marks }

-- a screen that is the same is the same but for its window
pub spared : {k : ℕ} {a b : State} → SameScreen k a b → Spared k a b
spared s = record {
  same_base = s.same_base;
  same_lines = s.same_lines;
  same_columns = s.same_columns;
  same_line = ap (λ (p : Place). p.line) s.same_place;
  same_column = ap (λ (p : Place). p.column) s.same_place;
  same_late = ap (λ (p : Place). p.late) s.same_place;
  same_cells = s.same_cells;
  same_marks = s.same_marks;
}

pub kept_refl : (a : State) → Good a → Kept a a
kept_refl a g = record { good = g; same_selected = refl; same_shape = λ k. (refl, refl); same_tracking = refl; other = λ k l n. same_refl k a }

pub kept_trans : {a b c : State} → Kept a b → Kept b c → Kept a c
kept_trans {a} {b} {c} p q = record {
  good = q.good;
  same_selected = q.same_selected ∙ p.same_selected;
  same_shape = λ k. ((q.same_shape k).0 ∙ (p.same_shape k).0, (q.same_shape k).1 ∙ (p.same_shape k).1);
  same_tracking = q.same_tracking ∙ p.same_tracking;
  other = λ k l n. same_trans (p.other k l n) (q.other k l (λ e. n (e ∙ p.same_selected)));
}

module _ (a : State) (g : Good a) where
  -- a new place
  pub place_same : (p : Place) → here (placed p a) ≡ p
  unfolding placed place_of array_ranges
  place_same p = get_or-set_same a.settings.places a.settings.selected p nowhere (omega (arith, g.sound.arrays.0, chosen a.settings g.sound))

  pub place_other : (p : Place) (k : ℕ) → (k ≡ a.settings.selected → ⊥) → place_of (placed p a).settings k ≡ place_of a.settings k
  unfolding placed place_of
  place_other p k n = get_or-set_other a.settings.places a.settings.selected k p nowhere n

  pub kept_placed : (p : Place) → Fits a.settings.rule (lines_here a) (columns_here a) (height a.settings) p → Kept a (placed p a)
  unfolding placed plain_ranges array_ranges lines_of columns_of height text_rows base size mark_of screens
  kept_placed p f = record {
    good = record {
      sound = record {
        arrays = simp length-set g.sound.arrays;
        shaped = g.sound.shaped;
        selected = g.sound.selected;
        inside = λ k l. fits k l (ℕ_discrete k a.settings.selected);
        step_low = g.sound.step_low;
        step_high = g.sound.step_high;
        plain = g.sound.plain;
        line = g.sound.line;
        marked = g.sound.marked;
        alone = alone_by _ _ _ _ (λ m. subst (λ (q : Place). InRanges (alone_ranges a.settings.mode a.settings.kind a.settings.display q)) (sym (place_other p 1 (λ e. omega (arith, e, g.sound.selected, one_there a.settings m)))) g.sound.alone);
      };
      cells_are = g.cells_are;
      layer_are = g.layer_are;
      dots_are = g.dots_are;
    };
    same_selected = refl;
    same_shape = λ k. (refl, refl);
    same_tracking = refl;
    other = λ k l n. record { same_base = refl; same_lines = refl; same_columns = refl; same_height = refl; same_place = place_other p k n; same_cells = refl; same_marks = refl };
  }
    where
      fits : (k : ℕ) → k < screens a.settings → Dec (k ≡ a.settings.selected) → Inside (placed p a).settings k
      fits k l (yes e) = rw e (subst (Fits a.settings.rule (lines_here a) (columns_here a) (height a.settings)) (sym (place_same p)) f)
      fits k l (no n) = subst (Fits a.settings.rule (lines_of a.settings k) (columns_of a.settings k) (height a.settings)) (sym (place_other p k n)) (g.sound.inside k l)

  -- a layer of the right size
  pub kept_layer : (xs : List ℕ) → length xs ≡ 1280 → Kept a (with_layer xs a)
  unfolding with_layer
  kept_layer xs e = record {
    good = record { sound = g.sound; cells_are = g.cells_are; layer_are = e; dots_are = g.dots_are };
    same_selected = refl;
    same_shape = λ k. (refl, refl);
    same_tracking = refl;
    other = λ k l n. record { same_base = refl; same_lines = refl; same_columns = refl; same_height = refl; same_place = refl; same_cells = refl; same_marks = refl };
  }

  -- P11: dots of the right size
  pub kept_dots : (xs : List ℕ) → length xs ≡ 3840 → Kept a (with_dots xs a)
  unfolding with_dots
  kept_dots xs e = record {
    good = record { sound = g.sound; cells_are = g.cells_are; layer_are = g.layer_are; dots_are = e };
    same_selected = refl;
    same_shape = λ k. (refl, refl);
    same_tracking = refl;
    other = λ k l n. record { same_base = refl; same_lines = refl; same_columns = refl; same_height = refl; same_place = refl; same_cells = refl; same_marks = refl };
  }

  pub kept_emptied : Kept a (emptied a)
  unfolding emptied
  kept_emptied = kept_layer (replicate 1280 0) (length-replicate {A = ℕ} 1280 0)

  -- cells that are the same but for a part of the selected screen
  pub kept_cells : (xs : List ℕ) → length xs ≡ 3840 → ((k : ℕ) → k < 2 → (k ≡ a.settings.selected → ⊥) → cells_of (with_cells xs a) k ≡ cells_of a k) → Kept a (with_cells xs a)
  unfolding with_cells
  kept_cells xs e f = record {
    good = record { sound = g.sound; cells_are = e; layer_are = g.layer_are; dots_are = g.dots_are };
    same_selected = refl;
    same_shape = λ k. (refl, refl);
    same_tracking = refl;
    other = λ k l n. record { same_base = refl; same_lines = refl; same_columns = refl; same_height = refl; same_place = refl; same_cells = f k l n; same_marks = refl };
  }

  pub kept_part : (from count : ℕ) (f : List ℕ → List ℕ) → ((ys : List ℕ) → length (f ys) ≡ length ys)
      → base a.settings a.settings.selected ≤ from
      → from + count ≤ base a.settings a.settings.selected + size a.settings a.settings.selected
      → Kept a (with_cells (on_part from count f a.cells) a)
  unfolding with_cells
  kept_part from count f keeps low high =
      kept_cells (on_part from count f a.cells) (length-on_part from count f keeps a.cells fits ∙ g.cells_are)
      (λ k l n. away k l (apart a.settings g.sound k a.settings.selected l (chosen a.settings g.sound) n))
    where
      fits : from + count ≤ length a.cells
      fits = omega (arith, within a.settings g.sound a.settings.selected (chosen a.settings g.sound), g.cells_are)

      away : (k : ℕ) → k < 2 → Apart (base a.settings k) (size a.settings k) (base a.settings a.settings.selected) (size a.settings a.settings.selected)
          → take (size a.settings k) (drop (base a.settings k) (on_part from count f a.cells)) ≡ cells_of a k
      away k l (earlier h) = on_part_before from count f keeps a.cells fits (base a.settings k) (size a.settings k) (omega arith)
      away k l (later h) = ap (take (size a.settings k)) (on_part_after from count f keeps a.cells fits (base a.settings k) (omega arith))

  pub kept_set : (i c : ℕ)
      → base a.settings a.settings.selected ≤ i
      → i < base a.settings a.settings.selected + size a.settings a.settings.selected
      → Kept a (with_cells (set a.cells i c) a)
  unfolding with_cells
  kept_set i c low high =
      kept_cells (set a.cells i c) (length-set a.cells i c ∙ g.cells_are)
      (λ k l n. away k l (apart a.settings g.sound k a.settings.selected l (chosen a.settings g.sound) n))
    where
      away : (k : ℕ) → k < 2 → Apart (base a.settings k) (size a.settings k) (base a.settings a.settings.selected) (size a.settings a.settings.selected)
          → take (size a.settings k) (drop (base a.settings k) (set a.cells i c)) ≡ cells_of a k
      away k l (earlier h) = set_before a.cells i c (base a.settings k) (size a.settings k) (omega arith)
      away k l (later h) = ap (take (size a.settings k)) (drop-set-lt (base a.settings k) a.cells i c (omega arith))

  -- what is only stored
  pub kept_stored_only : (kind : ℕ) (ks : Keys) (ps : List ℕ) → InRanges (key_ranges kind ks) → InRanges (array_ranges (with_stored a.settings kind ks ps)) → (a.settings.mode ≡ 3 → kind ≡ a.settings.kind) → Kept a (with_settings (with_stored a.settings kind ks ps) a)
  unfolding with_settings plain_ranges key_ranges lines_of columns_of height text_rows place_of base size mark_of screens
  kept_stored_only kind ks ps h l same = record {
    good = record {
      sound = record { arrays = l; shaped = g.sound.shaped; selected = g.sound.selected; inside = g.sound.inside; step_low = g.sound.step_low; step_high = g.sound.step_high; plain = search (g.sound.plain, h) depth 30; line = g.sound.line; marked = g.sound.marked; alone = alone_by _ _ _ _ (λ m. subst (λ (n : ℕ). InRanges (alone_ranges a.settings.mode n a.settings.display (place_of a.settings 1))) (sym (same m)) g.sound.alone) };
      cells_are = g.cells_are;
      layer_are = g.layer_are;
      dots_are = g.dots_are;
    };
    same_selected = refl;
    same_shape = λ k. (refl, refl);
    same_tracking = refl;
    other = λ k l n. record { same_base = refl; same_lines = refl; same_columns = refl; same_height = refl; same_place = refl; same_cells = refl; same_marks = refl };
  }

  -- flags and numbers, and the selected screen
  pub kept_flags : (sel tr st se cu : ℕ) → sel < screens a.settings → Passes (range 0 tr 1) → 1 ≤ st → st ≤ height a.settings → Passes (range 0 se 1) → Passes (range 0 cu 1)
      → Good (flagged sel tr st se cu a) × ((k : ℕ) → SameScreen k a (flagged sel tr st se cu a))
  unfolding flagged with_settings plain_ranges array_ranges key_ranges lines_of columns_of height text_rows place_of base size mark_of screens
  kept_flags sel tr st se cu o p q r u v = (
    record { sound = record { arrays = g.sound.arrays; shaped = g.sound.shaped; selected = o; inside = g.sound.inside; step_low = q; step_high = r; plain = search (g.sound.plain, p, u, v) depth 30; line = g.sound.line; marked = g.sound.marked; alone = g.sound.alone }; cells_are = g.cells_are; layer_are = g.layer_are; dots_are = g.dots_are },
    λ k. record { same_base = refl; same_lines = refl; same_columns = refl; same_height = refl; same_place = refl; same_cells = refl; same_marks = refl },
  )

pub same_emptied : (k : ℕ) (a : State) → SameScreen k a (emptied a)
unfolding emptied with_layer
same_emptied k a = record { same_base = refl; same_lines = refl; same_columns = refl; same_height = refl; same_place = refl; same_cells = refl; same_marks = refl }

-- the geometry of lines: a and m lines of w columns in a screen of n lines
pub lines_inside : (w a m n : ℕ) → a + m ≤ n → a * w + m * w ≤ n * w
lines_inside w a m n h = rw (← add-mul a m w) (mul-le-mul_right w h)

-- the cells of a line l from 1
pub line_inside : (w l n : ℕ) → 1 ≤ l → l ≤ n → (l - 1) * w + w ≤ n * w
line_inside w l n p q =
    let e : suc (l - 1) ≡ l = omega arith in
    rw (← suc-mul (l - 1) w, e) (mul-le-mul_right w q)
