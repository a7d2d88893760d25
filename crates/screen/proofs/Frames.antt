-- The frame of sound settings, and that they are ready for it.
use mathlib.Core.Path.{◌∙◌, ◌≡◌, refl, subst, sym}
use Prim.Native.Nat.{◌+◌, ◌<◌, ◌≤◌, ℕ}
use native.Mathlib.Omega.{arith}
use mathlib.Core.Bool.{Bool, ◌&&◌, cond, false, true}
use lib.Dec.{eqb}
use Rattle.model.specs.declared.Settings.{Settings}
use Rattle.model.specs.Screens.{base, columns_of, height, lines_of, place_of, size, text_rows}
use Rattle.model.specs.Checks.{InRanges}
use Rattle.model.specs.Sound.{Shaped, Sound, alone_ranges, array_ranges, mode0, mode1, mode2, mode3}
use Rattle.model.specs.Judging.{limits_of}
use Rattle.model.proofs.Keep.{chosen, height_low, one_there, tall, wide, within}
use Rattle.model.proofs.Tests.{by_test, cond_at}
use Rattle.ground.specs.declared.Frame.{Frame}
use Rattle.ground.specs.Frame.{Framed, FrameOf, Stands, limits_in}

shaped_lines : {m l1 l2 c1 c2 : ℕ} → Shaped m l1 l2 c1 c2 → (l1 ≤ 48) × (l2 ≤ 48) × (c1 ≤ 80)
shaped_lines (mode0 m p q a b c) = omega arith
shaped_lines (mode1 n p q a b c) = omega arith
shaped_lines (mode2 n p q e a b c) = omega arith
shaped_lines (mode3 n p q a b) = omega arith

-- P11, mode 3: "8 lines by 80"
shaped_alone : {m l1 l2 c1 c2 : ℕ} → Shaped m l1 l2 c1 c2 → m ≡ 3 → l1 ≡ 8
shaped_alone (mode0 m p q a b c) e = absurd (omega arith)
shaped_alone (mode1 n p q a b c) e = absurd (omega arith)
shaped_alone (mode2 n p q e a b c) d = absurd (omega arith)
shaped_alone (mode3 n p q a b) e = a

module _ {s : Settings} (h : Sound s) where
  -- mode 2's first screen leaves room for the boundary
  pub columns_high : s.columns1 < 255
  columns_high = omega (arith, shaped_lines h.shaped)

  lines_high : (k : ℕ) → lines_of s k ≤ 48
  unfolding lines_of
  lines_high k = cond_at (λ (n : ℕ). n ≤ 48) (eqb k 0) _ _ (λ e. omega (arith, shaped_lines h.shaped)) (λ e. omega (arith, shaped_lines h.shaped))

  -- P11: mode 3's one screen has the window's height, since the key line is not shown there
  whole-there : s.mode ≡ 3 → height s ≡ lines_of s s.selected
  unfolding height text_rows lines_of alone_ranges
  whole-there m =
      let first : s.selected ≡ 0 = omega (arith, h.selected, one_there s m) in
      let alone = subst (λ (n : ℕ). InRanges (alone_ranges n s.kind s.display (place_of s 1))) m h.alone in
      let shown : s.display ≡ 1 = omega (arith, alone.1.0) in
      rw (m, shown, first) (sym (shaped_alone h.shaped m))

  -- of sound settings a frame is one whose place stands on its screen
  stands_of : {f : Frame} → Framed s f → Stands f (place_of s s.selected)
  unfolding size
  stands_of e = record {
    among = rw (e.base_is, e.lines_are, e.columns_are) (within s h s.selected (chosen s h));
    columns_low = rw e.columns_are (wide s h s.selected h.selected);
    screen_low = omega (arith, e.screen_is, chosen s h);
    lines_high = rw e.lines_are (lines_high s.selected);
    height_low = rw e.height_is (omega (arith, height_low s));
    height_high = rw (e.height_is, e.lines_are) (tall s h s.selected h.selected);
    whole = λ m. e.height_is ∙ whole-there (sym e.mode_is ∙ m) ∙ sym e.lines_are;
    step_high = rw (e.step_is, e.height_is) h.step_high;
    fits = rw (e.rule_is, e.lines_are, e.columns_are, e.height_is) (h.inside s.selected h.selected);
  }

  pub frame : {f : Frame} → f.lines ≡ lines_of s s.selected → f.columns ≡ columns_of s s.selected → f.base ≡ base s s.selected → f.screen ≡ s.selected
      → f.height ≡ height s → f.shift ≡ cond (eqb s.mode 2 && eqb s.selected 1) (s.columns1 + 1) 0
      → f.rows ≡ text_rows s → f.step ≡ s.step → f.tracking ≡ s.tracking → f.rule ≡ s.rule → f.mode ≡ s.mode → FrameOf s f
  unfolding array_ranges
  frame {f} a b c o d e g i j r n =
      let k : Framed s f = record { two_places = omega (arith, h.arrays.0); selected_low = chosen s h; lines_are = a; columns_are = b; base_is = c; screen_is = o; rows_are = g; height_is = d; shift_is = e; step_is = i; tracking_is = j; rule_is = r; mode_is = n } in
      record { framed = k; stands = stands_of k }

-- which columns of the picture are another screen's
pub shift_first : (s : Settings) → s.selected ≡ 0 → 0 ≡ cond (eqb s.mode 2 && eqb s.selected 1) (s.columns1 + 1) 0
shift_first s k = rw k (by_test (λ (b : Bool). 0 ≡ cond (b && false) (s.columns1 + 1) 0) (eqb s.mode 2) refl refl)

pub shift_second : (s : Settings) → s.selected ≡ 1 → cond (eqb s.mode 2) (s.columns1 + 1) 0 ≡ cond (eqb s.mode 2 && eqb s.selected 1) (s.columns1 + 1) 0
shift_second s k = rw k (by_test (λ (b : Bool). cond b (s.columns1 + 1) 0 ≡ cond (b && true) (s.columns1 + 1) 0) (eqb s.mode 2) refl refl)

-- parameters are judged by the frame as by the settings
pub limits_are : {s : Settings} {f : Frame} → Framed s f → limits_of s ≡ limits_in f
limits_are e = rw (e.mode_is, e.lines_are, e.columns_are, e.height_is)
