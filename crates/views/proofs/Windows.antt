-- Where windows lie among the cells.
use mathlib.Core.Path.{◌≡◌, refl, subst, sym}
use Prim.Native.Nat.{◌*◌, ◌+◌, ◌-◌, ◌<◌, ◌≤◌, ℕ}
use native.Mathlib.Nat.{add-mul}
use native.Mathlib.Omega.{arith}
use Rattle.model.specs.declared.Settings.{Settings}
use Rattle.model.specs.Screens.{base, cell_at, columns_of, height, line_at, lines_of, place_of, screens, size}
use Rattle.model.specs.Sound.{Fits, Sound}
use Rattle.model.proofs.Keep.{lines_inside, screens_low, screens_most, within}
use Rattle.views.specs.declared.Pane.{Pane}
use Rattle.views.specs.Panes.{Window, cell_in}

module _ (s : Settings) (sound : Sound s) where
  top_low : (k : ℕ) → k < screens s → 1 ≤ (place_of s k).top
  top_low k l = (sound.inside k l).top_low

  window_inside : (k : ℕ) → k < screens s → line_at s k (place_of s k).top + height s * columns_of s k ≤ 3840
  unfolding line_at size
  window_inside k l =
      let f : Fits s.rule (lines_of s k) (columns_of s k) (height s) (place_of s k) = sound.inside k l in
      omega (arith, within s sound k (omega (arith, l, screens_most s)), lines_inside (columns_of s k) ((place_of s k).top - 1) (height s) (lines_of s k) (omega arith))

  -- the windows of the two screens, by the top
  abbrev first : ℕ → Pane
  first top = record { at = (top - 1) * s.columns1; width = s.columns1 }

  abbrev second : ℕ → Pane
  second top = record { at = s.lines1 * s.columns1 + (top - 1) * s.columns2; width = s.columns2 }

  pub window_1 : (k top : ℕ) → k ≡ 0 → top ≡ (place_of s k).top → Window s k (first top)
  unfolding line_at base columns_of
  window_1 k top e there =
      subst (λ (k : ℕ). top ≡ (place_of s k).top → Window s k (first top)) (sym e)
      (λ t. subst (λ (top : ℕ). Window s 0 (first top)) (sym t) (record { starts = omega arith; wide = refl; inside = omega (arith, window_inside 0 (screens_low s)) })) there

  pub window_2 : (k top : ℕ) → k < screens s → k ≡ 1 → top ≡ (place_of s k).top → Window s k (second top)
  unfolding line_at base columns_of
  window_2 k top l e there =
      subst (λ (k : ℕ). top ≡ (place_of s k).top → Window s k (second top)) (sym e)
      (λ t. subst (λ (top : ℕ). Window s 1 (second top)) (sym t) (record { starts = refl; wide = refl; inside = window_inside 1 (omega arith) })) there

  -- the cell of a window at a row and a column from 0 is that of document 01's line and column from 1
  pub in_window : (k : ℕ) → k < screens s → {pane : Pane} → Window s k pane → (row column line c : ℕ) → line ≡ row + 1 → c ≡ column + 1
      → cell_in pane row column ≡ cell_at s k ((place_of s k).top + line - 1) c
  unfolding cell_at line_at
  in_window k l {pane} w row column line c e f =
      let n : (place_of s k).top + line - 1 - 1 ≡ (place_of s k).top - 1 + row = omega (arith, top_low k l) in
      let m : c - 1 ≡ column = omega arith in
      rw (w.starts, w.wide, n, m, add-mul ((place_of s k).top - 1) row (columns_of s k)) (omega arith)
