-- Bytes printed in the cursor's line short of its end, while the window stays: no cursor is late there under either rule, each byte is
-- stored, the cursor moves a column, and tracking does nothing. So they are all stored at once, and as many places emptied. The last of them
-- may be that of the last column: it is stored with the others, and what comes of it is the step behind it.
use mathlib.Core.Path.{◌∙◌, ◌≡◌, refl, subst}
use Prim.Native.Nat.{◌+◌, ◌<◌, ◌≤◌, suc, ℕ}
use native.Mathlib.Numerals.{add-one}
use native.Mathlib.Omega.{arith}
use mathlib.Core.Bool.{false}
use mathlib.Core.List.{List, [], ◌∷◌}
use lib.ListN.{drop, length, length-drop, length-set, length-take, set, take}
use lib.Seq.{sets}
use Rattle.model.specs.declared.Place.{Place}
use Rattle.model.specs.Bytes.{put}
use Rattle.model.specs.State.{put_at, state}
use Rattle.model.specs.Rules.{nearest, printed, stored, tracked, empty_at}
use Rattle.ground.specs.declared.Frame.{Frame}
use Rattle.ground.specs.Frame.{Ready}
use Rattle.ground.specs.Acts.{Acts, Reads}
use Rattle.ground.specs.Here.{cell_in, lost, shown_here}
use Rattle.ground.specs.Spots.{further_by, empty_from}
use Rattle.runs.specs.Run.{laid_all, printed_all}
use Rattle.ground.proofs.Acting.{likewise, stays, still, then, then_above}
use Rattle.ground.proofs.Cells.{cell_room}
use Rattle.ground.proofs.Steps.{cell_is, emptied_layer}
use Rattle.cursor.proofs.Moves.{late_step_still, right_steps, late_not}
use Rattle.cursor.proofs.ShownLaws.{Spot, spot_next, spot_of}
use Rattle.cursor.proofs.Windows.{lost_next, lost_still}
use Rattle.ground.proofs.Rows.{put-sets, empty_at_none}

module _ {f : Frame} where
  stored_spot : {p : Place} {c l : List ℕ} {n : ℕ} (b : ℕ) → Ready f p c l → Spot f p n → Acts (stored b) f p p c l (set c (cell_in f p) b) (empty_at n l)
  unfolding stored
  stored_spot {p} {c} {l} {n} b h k =
      stays (record { stands = h.stands; cells_are = length-set c (cell_in f p) b ∙ h.cells_are; layer_are = emptied_layer n h.layer_are refl })
      (λ s ds e i. rw (cell_is (state s c l ds) e i, ← empty_at_none (shown_here (state s c l ds)) l, k.is (state s c l ds) e i, empty_at_none n l))

  -- one byte
  pub printed_spot : {p : Place} {c l : List ℕ} {n : ℕ} (b : ℕ) → Ready f p c l → p.late ≡ 0 → p.column < f.columns → Reads lost f p false → Spot f p n
      → Acts (printed b) f p (put_at p.line (suc p.column) p) c l (set c (cell_in f p) b) (empty_at n l)
  unfolding printed tracked
  printed_spot {p} b h w k j i =
      let a = stored_spot b h i in
      let r = right_steps {r = put_at p.line (suc p.column) p} a.ready k (rw add-one) in
      then_above (then (then (late_step_still h (λ e. omega arith)) a) r) (lost_still nearest r.ready.stands r.ready.layer_are (lost_next (suc p.column) j) refl)

  -- all of them
  chunk_acts : (bs : List ℕ) {p r : Place} {c l c' l' : List ℕ} {n : ℕ} → Ready f p c l → p.late ≡ 0 → p.column + length bs ≤ f.columns → Reads lost f p false → Spot f p n
      → r ≡ put_at p.line (p.column + length bs) p → c' ≡ sets c (cell_in f p) bs → l' ≡ empty_from n (length bs) l → Acts (printed_all bs) f p r c l c' l'
  unfolding printed_all empty_from
  chunk_acts [] {p} {c = c} {l = l} {n = n} h w room j i a b d =
      let z : p.column + 0 ≡ p.column = omega arith in
      let y : p ≡ put_at p.line p.column p = λ o. record { line = p.line; column = p.column; top = p.top; late = w o } in
      rw (a, b, d, z) (subst (λ (o : Place). Acts (printed_all []) f p o c l c l) y (likewise (λ s ds e k. refl) (still h)))
  chunk_acts (x ∷ xs) {p} {n = n} h w room j i a b d =
      let v = printed_spot x h w (omega arith) j i in
      let z : p.column + suc (length xs) ≡ suc p.column + length xs = omega arith in
      let y : cell_in f (put_at p.line (suc p.column) p) ≡ suc (cell_in f p) = omega (arith, h.stands.fits.column_low) in
      likewise (λ s ds e k. refl)
      (then v (chunk_acts xs v.ready refl (omega arith) (lost_next (suc p.column) j) (spot_next h.stands.fits.column_low i) (rw z at a) (rw y b) d))

  -- the last one, stored
  pub laid_one : (x : ℕ) {p r : Place} {c l c' l' : List ℕ} {n : ℕ} → Ready f p c l → Spot f p n → r ≡ further_by 0 p → c' ≡ sets c (cell_in f p) (x ∷ []) → l' ≡ empty_from n 1 l → Acts (stored x) f p r c l c' l'
  unfolding empty_from
  laid_one x {p} {c = c} {l = l} {n = n} h i a b d =
      let z : p.column ≡ p.column + 0 = omega arith in
      let y : p ≡ further_by 0 p = λ o. record { line = p.line; column = z o; top = p.top; late = p.late } in
      rw (a, b, d) (subst (λ (o : Place). Acts (stored x) f p o c l (set c (cell_in f p) x) (empty_at n l)) y (stored_spot x h i))

  -- and those before it
  pub laid_acts : (x : ℕ) (xs : List ℕ) {p r : Place} {c l c' l' : List ℕ} {n : ℕ} → Ready f p c l → p.late ≡ 0 → p.column + length xs ≤ f.columns → (1 ≤ length xs → Reads lost f p false) → Spot f p n
      → r ≡ further_by (length xs) p → c' ≡ sets c (cell_in f p) (x ∷ xs) → l' ≡ empty_from n (suc (length xs)) l → Acts (laid_all (x ∷ xs)) f p r c l c' l'
  unfolding laid_all empty_from
  laid_acts x [] h w room j i a b d = likewise (λ s ds e k. refl) (then (late_step_still h (λ e. omega arith)) (laid_one x h i a b d))
  laid_acts x (y ∷ ys) {p} {n = n} h w room j i a b d =
      let seen = j (omega arith) in
      let v = printed_spot x h w (omega arith) seen i in
      let z : p.column + suc (length ys) ≡ suc p.column + length ys = omega arith in
      let t : further_by (suc (length ys)) p ≡ further_by (length ys) (put_at p.line (suc p.column) p) = λ o. record { line = p.line; column = z o; top = p.top; late = w o } in
      let u : cell_in f (put_at p.line (suc p.column) p) ≡ suc (cell_in f p) = omega (arith, h.stands.fits.column_low) in
      likewise (λ s ds e k. refl)
      (then v (laid_acts y ys v.ready refl (omega arith) (λ o. lost_next (suc p.column) seen) (spot_next h.stands.fits.column_low i) (a ∙ t) (rw u b) d))

  -- so a part of a message copied to where the cursor stands
  pub copied_acts : {p r : Place} {c l c' l' : List ℕ} {k n : ℕ} (m : List ℕ) (at count : ℕ) → Ready f p c l → 1 ≤ count → at + count ≤ length m → p.column + count ≤ f.columns → Reads lost f p false
      → n ≡ cell_in f p → c' ≡ put n (take count (drop at m)) c → Reads shown_here f p k → l' ≡ empty_from k count l → r ≡ put_at p.line (p.column + count) p
      → Acts (printed_all (take count (drop at m))) f p r c l c' l'
  copied_acts {p} {c = c} m at count h some inside room j a b d e i =
      let bs : List ℕ = take count (drop at m) in
      let z : length bs ≡ count = simp (length-take, length-drop) (omega arith) in
      chunk_acts bs h (late_not h.stands (omega arith)) (omega arith) j (spot_of d) (rw z i) (rw (b, a) (put-sets (cell_in f p) bs c (omega (arith, cell_room h.stands, h.cells_are)))) (rw z e)
