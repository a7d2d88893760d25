-- The steps that every rule here is made of, as functions on a frame, a place and the stores make them.
use mathlib.Core.Path.{◌∙◌, ◌≡◌, ap, refl, sym}
use Prim.Native.Nat.{◌≤◌, ℕ}
use native.Mathlib.Omega.{arith}
use mathlib.Core.List.{List}
use lib.ListN.{length, length-replicate, replicate}
use Rattle.model.specs.declared.Place.{Place}
use Rattle.model.specs.State.{State, put_at, state}
use Rattle.model.specs.Screens.{cell_at, here, line_at}
use Rattle.model.specs.Sound.{Fits}
use Rattle.model.specs.Rules.{emptied, placed, empty_at, with_cells, with_layer}
use Rattle.model.proofs.Steps.{length_empty_at}
use Rattle.ground.specs.declared.Frame.{Frame}
use Rattle.ground.specs.Frame.{LayerOf, Ready, Stands}
use Rattle.ground.specs.Acts.{Acts, Reads}
use Rattle.ground.specs.Here.{cell_here, cell_in}
use Rattle.ground.proofs.Acting.{at_value, stays}
use Rattle.ground.proofs.Rows.{empty_at_bare}

-- another place of the same frame
pub moved : {f : Frame} {p r : Place} → Stands f p → Fits f.rule f.lines f.columns f.height r → Stands f r
moved h k = record { among = h.among; columns_low = h.columns_low; screen_low = h.screen_low; lines_high = h.lines_high; height_low = h.height_low; height_high = h.height_high; whole = h.whole; step_high = h.step_high; fits = k }

pub put_stands : {f : Frame} {p r : Place} {line column : ℕ} → Stands f p → 1 ≤ line → line ≤ f.lines → 1 ≤ column → column ≤ f.columns → r ≡ put_at line column p → Stands f r
put_stands h a b c d k = rw k (moved h (record { line_low = a; line_high = b; column_low = c; column_high = d; top_low = h.fits.top_low; top_high = h.fits.top_high; waits = omega arith }))

-- what is read off what stands: the place, the cursor's cell
pub here_is : {f : Frame} {p : Place} → Reads here f p p
here_is st e k = k

pub cell_is : {f : Frame} {p : Place} → Reads cell_here f p (cell_in f p)
unfolding cell_at line_at
cell_is st e k = rw (k, ← e.base_is, ← e.columns_are)

-- the layer emptied, whole or at a place
empty_layer : {f : Frame} {l : List ℕ} → l ≡ replicate 1280 0 → LayerOf f l
empty_layer k = record { size = ap length k ∙ length-replicate {A = ℕ} 1280 0; empty = λ b. k }

pub emptied_layer : {f : Frame} {l l' : List ℕ} (n : ℕ) → LayerOf f l → l' ≡ empty_at n l → LayerOf f l'
emptied_layer {l = l} n h k = record { size = ap length k ∙ length_empty_at n l ∙ h.size; empty = λ b. k ∙ empty_at_bare n l (h.empty b) ∙ h.empty b }

-- the place, the layer and the cells, one at a time
module _ {f : Frame} {p : Place} {c l : List ℕ} (h : Ready f p c l) where
  pub placed_acts : (r : Place) → Stands f r → Acts (placed r) f p r c l c l
  unfolding placed
  placed_acts r k = record { does = λ s ds e i. refl; ready = record { stands = k; cells_are = h.cells_are; layer_are = h.layer_are } }

  -- the cursor in a line and a column of the screen, which the rule has from the place
  pub cursor_acts : (line column : Place → ℕ) {r : Place} → 1 ≤ line p → line p ≤ f.lines → 1 ≤ column p → column p ≤ f.columns → r ≡ put_at (line p) (column p) p
      → Acts (λ (st : State). placed (put_at (line (here st)) (column (here st)) (here st)) st) f p r c l c l
  cursor_acts line column a b d e k =
      rw k (at_value (λ (x : Place) (st : State). placed (put_at (line x) (column x) x) st) here_is (placed_acts (put_at (line p) (column p) p) (put_stands h.stands a b d e refl)))

  pub emptied_acts : {l' : List ℕ} → l' ≡ replicate 1280 0 → Acts emptied f p p c l c l'
  unfolding emptied with_layer
  emptied_acts k =
      stays (record { stands = h.stands; cells_are = h.cells_are; layer_are = empty_layer k })
      (λ s ds e i. ap (λ (x : List ℕ). state s c x ds) (sym k))

  pub cells_acts : (c' : List ℕ) → length c' ≡ length c → Acts (with_cells c') f p p c l c' l
  unfolding with_cells
  cells_acts c' k = stays (record { stands = h.stands; cells_are = k ∙ h.cells_are; layer_are = h.layer_are }) (λ s ds e i. refl)
