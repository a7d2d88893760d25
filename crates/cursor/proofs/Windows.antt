-- The window: where its top goes, worked out from a frame and a place, and turning it there.
use mathlib.Core.Path.{◌∙◌, ◌≡◌, ap, refl, sym}
use Prim.Native.Nat.{◌+◌, ◌-◌, ◌/◌, ◌≤◌, max, min, ℕ}
use native.Mathlib.Omega.{arith}
use mathlib.Core.Bool.{◌&&◌, ◌||◌, Bool, cond, false, true}
use mathlib.Core.List.{List}
use lib.ListN.{replicate}
use lib.Dec.{eqb, leb, ltb}
use borrow.Author.Tests.{eq-eqb, ne_eqb}
use Rattle.model.specs.declared.Place.{Place}
use Rattle.model.specs.State.{State, put_at, state, top_at}
use Rattle.model.specs.Screens.{here}
use Rattle.model.specs.Rules.{centred, emptied, held, missed, nearest, placed, topped}
use Rattle.ground.specs.declared.Frame.{Frame}
use Rattle.ground.specs.Frame.{Framed, LayerOf, Stands}
use Rattle.ground.specs.Acts.{Acts, ActsAbove, Reads, Top, with_place}
use Rattle.ground.specs.Here.{earlier, greatest, later, lost}
use Rattle.ground.proofs.Acting.{at_value, framed_placed, placed-there, still, then, when_false, when_true}
use Rattle.ground.proofs.Steps.{emptied_acts, here_is, moved, placed_acts}

-- where the top goes
-- 212
pub first_top : {f : Frame} {p : Place} → Stands f p → Top (λ (st : State). 1) f p 1
first_top h = record { is = λ st e i. refl; low = omega arith; high = omega arith }

module _ {f : Frame} {p : Place} {r : ℕ} where
  -- "held in range"
  pub held_top : (t : ℕ) → Stands f p → r ≡ max 1 (min t (f.lines + 1 - f.height)) → Top (held t) f p r
  unfolding held
  held_top t h k = record { is = λ st e i. rw (← e.lines_are, ← e.height_is, k); low = omega arith; high = omega arith }

  -- 213
  pub greatest_top : Stands f p → r ≡ f.lines + 1 - f.height → Top greatest f p r
  greatest_top h k = record { is = λ st e i. rw (← e.lines_are, ← e.height_is, k); low = omega arith; high = omega arith }

  -- "by the least amount"
  pub nearest_top : Stands f p → r ≡ max (p.line + 1 - f.height) (min p.line p.top) → Top nearest f p r
  unfolding nearest
  nearest_top h k = record { is = λ st e i. rw (i, ← e.height_is, k); low = omega arith; high = omega arith }

  -- a held top that is itself read off what stands
  held_at : {value : State → ℕ} {t : ℕ} → Reads value f p t → Top (held t) f p r → Top (λ (st : State). held (value st) st) f p r
  held_at k a = record { is = λ st e i. ap (λ (n : ℕ). held n st) (k st e i) ∙ a.is st e i; low = a.low; high = a.high }

  pub earlier_top : {t : ℕ} → Top (held t) f p r → p.top - f.step ≡ t → Top earlier f p r
  earlier_top a k = held_at (λ st e i. rw (i, ← e.step_is) k) a

  pub later_top : {t : ℕ} → Top (held t) f p r → p.top + f.step ≡ t → Top later f p r
  later_top a k = held_at (λ st e i. rw (i, ← e.step_is) k) a

  pub centred_top : {t : ℕ} → Top (held t) f p r → p.line - f.height / 2 ≡ t → Top centred f p r
  unfolding centred
  centred_top a k = held_at (λ st e i. rw (i, ← e.height_is) k) a

-- "While tracking is on, .. a window that misses the cursor's line"
pub lost_is : {f : Frame} {p : Place} → Reads lost f p (eqb f.tracking 1 && (ltb p.line p.top || leb (p.top + f.height) p.line))
unfolding missed
lost_is st e i = rw (i, ← e.height_is, ← e.tracking_is)

-- in another column of its line it is as much in the window
pub lost_next : {f : Frame} {p : Place} {b : Bool} (column : ℕ) → Reads lost f p b → Reads lost f (put_at p.line column p) b
lost_next {p = p} column h st e i =
    let s : State = state (with_place st.settings p) st.cells st.layer st.dots in
    let e' = framed_placed p e in
    let i' = placed-there p e in
    lost_is st e i ∙ sym (lost_is s e' i') ∙ h s e' i'

-- a test: a top is the window's
top_test : {f : Frame} {p : Place} {b : Bool} (t : ℕ) → eqb t p.top ≡ b → Reads (λ (st : State). eqb t (here st).top) f p b
top_test t h st e k = rw k h

-- turning the window
module _ {f : Frame} {p : Place} (h : Stands f p) {l : List ℕ} (n : LayerOf f l) where
  pub topped_same : {t : ℕ} → t ≡ p.top → ActsAbove (topped t) f p p l l
  unfolding topped
  topped_same {t} k cells m = when_true _ (top_test t (eq-eqb t p.top k)) (still (record { stands = h; cells_are = m; layer_are = n }))

  pub topped_turns : {t : ℕ} {r : Place} {l' : List ℕ} → 1 ≤ t → t + f.height ≤ f.lines + 1 → (t ≡ p.top → ⊥) → l' ≡ replicate 1280 0 → r ≡ top_at t p → ActsAbove (topped t) f p r l l'
  unfolding topped
  topped_turns {t} low high k j g cells m =
      let a : Acts (placed (top_at t p)) f p (top_at t p) cells l cells l = placed_acts (record { stands = h; cells_are = m; layer_are = n }) (top_at t p)
      (moved h (record { line_low = h.fits.line_low; line_high = h.fits.line_high; column_low = h.fits.column_low; column_high = h.fits.column_high; top_low = low; top_high = high; waits = h.fits.waits })) in
      rw g (when_false _ (top_test t (ne_eqb t p.top k))
      (at_value (λ (x : Place) (st : State). emptied (placed (top_at t x) st)) here_is (then a (emptied_acts a.ready j))))

-- P11: in mode 3 the window is as tall as the screen, so its top is 1 before and after
pub topped-whole : {f : Frame} {p : Place} {value : State → ℕ} {t : ℕ} → Stands f p → f.mode ≡ 3 → Top value f p t → (st : State) → Framed st.settings f → here st ≡ p → topped (value st) st ≡ st
unfolding topped
topped-whole {p = p} {value} {t} h m k st e i =
    let same : t ≡ p.top = omega (arith, k.low, k.high, h.whole m, h.fits.top_low, h.fits.top_high) in
    ap (λ (b : Bool). cond b st (emptied (placed (top_at (value st) (here st)) st))) (eq-eqb (value st) (here st).top (k.is st e i ∙ same ∙ sym (ap (λ (x : Place). x.top) i)))

module _ {f : Frame} {p r : Place} {l l' : List ℕ} where
  -- a top that is read off what stands
  pub topped_at : {value : State → ℕ} {t : ℕ} → Top value f p t → ActsAbove (topped t) f p r l l' → ActsAbove (λ (st : State). topped (value st) st) f p r l l'
  topped_at k a cells m = at_value topped k.is (a cells m)

  -- while tracking is on and the window misses the cursor's line, a top that is read so; else nothing
  pub lost_turns : {value : State → ℕ} {t : ℕ} {b : Bool} → Reads lost f p b → b ≡ true → Top value f p t → ActsAbove (topped t) f p r l l'
      → ActsAbove (λ (st : State). cond (lost st) (topped (value st) st) st) f p r l l'
  lost_turns k j t a cells m = when_true _ (λ st e i. k st e i ∙ j) (topped_at t a cells m)

pub lost_still : {f : Frame} {p : Place} {l : List ℕ} {b : Bool} (value : State → ℕ) → Stands f p → LayerOf f l → Reads lost f p b → b ≡ false
    → ActsAbove (λ (st : State). cond (lost st) (topped (value st) st) st) f p p l l
lost_still value h n k j cells m = when_false (λ (st : State). topped (value st) st) (λ st e i. k st e i ∙ j) (still (record { stands = h; cells_are = m; layer_are = n }))
