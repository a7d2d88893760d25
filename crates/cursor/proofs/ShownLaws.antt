-- The place that shows the cursor's cell, by the frame: the window is as tall as the rows or, in mode 1, twice as tall.
use mathlib.Core.Path.{◌∙◌, ◌≡◌, ap, refl, sym}
use Prim.Native.Nat.{◌*◌, ◌+◌, ◌-◌, ◌<◌, ◌≤◌, min, suc, ℕ}
use native.Mathlib.Omega.{arith}
use mathlib.Core.Bool.{Bool, ◌&&◌, cond, false, true}
use mathlib.Core.List.{List}
use lib.ListN.{replicate}
use lib.Dec.{eqb, leb, ltb}
use borrow.Author.Tests.{le-leb, le-ltb, lt-leb, lt-ltb, ltb-false, ltb-true}
use Rattle.model.specs.declared.Place.{Place}
use Rattle.model.specs.State.{State, put_at, state}
use Rattle.model.specs.Screens.{height, here}
use Rattle.model.specs.Rules.{shown_at}
use Rattle.model.proofs.Tests.{by_test}
use Rattle.ground.specs.declared.Frame.{Frame}
use Rattle.ground.specs.Frame.{Framed}
use Rattle.ground.specs.Acts.{Reads, with_place}
use Rattle.ground.specs.Here.{shown_here}
use Rattle.cursor.specs.Uncovers.{Uncovers}
use Rattle.ground.proofs.Acting.{framed_placed, placed-there}
use Rattle.ground.proofs.Rows.{empty_from_bare}

-- line l under a window of top t over r rows: a where the rows show it, b where mode 1 shows it in the right half
spot : Bool → ℕ → ℕ → ℕ → ℕ → ℕ → ℕ
spot m t l r a b = cond (leb t l && ltb (l - t) r) a (cond (m && leb t l && ltb (l - t) (2 * r)) b 640)

module _ (t l r a b : ℕ) where
  above : (m : Bool) → l < t → spot m t l r a b ≡ 640
  unfolding spot
  above true k = rw (lt-leb t l k)
  above false k = rw (lt-leb t l k)

  near : (m : Bool) → t ≤ l → l - t < r → spot m t l r a b ≡ a
  unfolding spot
  near m k j = rw (le-leb t l k, lt-ltb (l - t) r j)

  far : (m : Bool) → t ≤ l → r ≤ l - t → l - t < cond m (2 * r) r → spot m t l r a b ≡ b
  unfolding spot
  far true k j i = rw (le-leb t l k, le-ltb (l - t) r j, lt-ltb (l - t) (2 * r) i)
  far false k j i = absurd (omega arith)

  below : (m : Bool) → t ≤ l → r ≤ l - t → cond m (2 * r) r ≤ l - t → spot m t l r a b ≡ 640
  unfolding spot
  below true k j i = rw (le-leb t l k, le-ltb (l - t) r j, le-ltb (l - t) (2 * r) i)
  below false k j i = rw (le-leb t l k, le-ltb (l - t) r j)

height-by : {f : Frame} (st : State) → Framed st.settings f → f.height ≡ cond (eqb st.settings.mode 1) (2 * f.rows) f.rows
unfolding height
height-by st e = rw e.rows_are e.height_is

module _ {f : Frame} {p : Place} where
  spot_is : (st : State) → Framed st.settings f → here st ≡ p
      → shown_here st ≡ spot (eqb st.settings.mode 1) p.top p.line f.rows ((p.line - p.top) * 80 + (p.column - 1) + f.shift) ((p.line - p.top - f.rows) * 80 + p.column + 40)
  unfolding shown_at spot
  spot_is st e i = rw (i, ← e.rows_are, ← e.shift_is)

  pub shown_above : p.line < p.top → Reads shown_here f p 640
  shown_above k st e i = spot_is st e i ∙ above _ _ _ _ _ _ k

  pub shown_near : {n : ℕ} → p.top ≤ p.line → p.line - p.top < f.rows → (p.line - p.top) * 80 + (p.column - 1) + f.shift ≡ n → Reads shown_here f p n
  shown_near k j d st e i = spot_is st e i ∙ near _ _ _ _ _ _ k j ∙ d

  pub shown_far : {n : ℕ} → p.top ≤ p.line → f.rows ≤ p.line - p.top → p.line - p.top < f.height → (p.line - p.top - f.rows) * 80 + p.column + 40 ≡ n → Reads shown_here f p n
  shown_far k j h d st e i = spot_is st e i ∙ far _ _ _ _ _ _ k j (rw (height-by st e) at h) ∙ d

  pub shown_below : p.top ≤ p.line → f.rows ≤ p.line - p.top → f.height ≤ p.line - p.top → Reads shown_here f p 640
  shown_below k j h st e i = spot_is st e i ∙ below _ _ _ _ _ _ k j (rw (height-by st e) at h)

-- a column further it is the next place, where it is one
next_spot : (m : Bool) (t l r a b : ℕ) → min 640 (spot m t l r (suc a) (suc b)) ≡ min 640 (suc (spot m t l r a b))
unfolding spot
next_spot m t l r a b =
    by_test (λ (x : Bool). min 640 (cond x (suc a) (cond (m && leb t l && ltb (l - t) (2 * r)) (suc b) 640)) ≡ min 640 (suc (cond x a (cond (m && leb t l && ltb (l - t) (2 * r)) b 640))))
    (leb t l && ltb (l - t) r) refl
    (by_test (λ (x : Bool). min 640 (cond x (suc b) 640) ≡ min 640 (suc (cond x b 640))) (m && leb t l && ltb (l - t) (2 * r)) refl refl)

-- the place that shows the cursor's cell is n; from 640 on n is none
pub record Spot (f : Frame) (p : Place) (n : ℕ) : Type 0 where
  pub is : Reads (λ (st : State). min 640 (shown_here st)) f p (min 640 n)

pub spot_of : {f : Frame} {p : Place} {n : ℕ} → Reads shown_here f p n → Spot f p n
spot_of h = record { is = λ st e i. ap (min 640) (h st e i) }

pub spot_next : {f : Frame} {p : Place} {n : ℕ} → 1 ≤ p.column → Spot f p n → Spot f (put_at p.line (suc p.column) p) (suc n)
spot_next {f} {p} {n} low h = record { is = further }
  where
    further : Reads (λ (st : State). min 640 (shown_here st)) f (put_at p.line (suc p.column) p) (min 640 (suc n))
    further st e i =
        let s : State = state (with_place st.settings p) st.cells st.layer st.dots in
        let e' = framed_placed p e in
        let i' = placed-there p e in
        let k : min 640 (shown_here s) ≡ min 640 n = h.is s e' i' in
        let a : (p.line - p.top) * 80 + (suc p.column - 1) + f.shift ≡ suc ((p.line - p.top) * 80 + (p.column - 1) + f.shift) = omega (arith, low) in
        let b : (p.line - p.top - f.rows) * 80 + suc p.column + 40 ≡ suc ((p.line - p.top - f.rows) * 80 + p.column + 40) = omega arith in
        ap (min 640) (spot_is st e i) ∙ rw (a, b) (next_spot _ _ _ _ _ _) ∙ ap (λ (x : ℕ). min 640 (suc x)) (sym (spot_is s e' i')) ∙ omega (arith, k)

-- an empty layer is uncovered as it stands, from wherever the cursor's cell is shown
pub bare_uncovers : {f : Frame} {p : Place} {l : List ℕ} (n : ℕ) → l ≡ replicate 1280 0 → Uncovers f p n l l
bare_uncovers {f} {p} {l} n k = go (ltb p.line p.top) (ltb (p.line - p.top) f.rows) (ltb (p.line - p.top) f.height) refl refl refl
  where
    from : (a : ℕ) → Reads shown_here f p a → Uncovers f p n l l
    from a h = record { from = a; shows = h; is = sym (empty_from_bare n a l k) }

    go : (a b d : Bool) → ltb p.line p.top ≡ a → ltb (p.line - p.top) f.rows ≡ b → ltb (p.line - p.top) f.height ≡ d → Uncovers f p n l l
    go true b d e i j = from 640 (shown_above (ltb-true p.line p.top e))
    go false true d e i j = from _ (shown_near (ltb-false p.line p.top e) (ltb-true (p.line - p.top) f.rows i) refl)
    go false false true e i j = from _ (shown_far (ltb-false p.line p.top e) (ltb-false (p.line - p.top) f.rows i) (ltb-true (p.line - p.top) f.height j) refl)
    go false false false e i j = from 640 (shown_below (ltb-false p.line p.top e) (ltb-false (p.line - p.top) f.rows i) (ltb-false (p.line - p.top) f.height j))
