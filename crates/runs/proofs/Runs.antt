-- A run of printed bytes, part by part.
use mathlib.Core.Path.{◌∙◌, ◌≡◌, ap, refl, subst, sym}
use Prim.Native.Nat.{◌+◌, ◌-◌, ◌<◌, ◌≤◌, suc, zero, ℕ}
use native.Mathlib.Numerals.{add-one}
use native.Mathlib.Omega.{arith}
use mathlib.Core.Bool.{Bool, ◌&&◌, false, true}
use mathlib.Core.List.{List, [], ◌++◌, ◌∷◌}
use lib.ListN.{drop, get_or, length, length-drop, length-take, take}
use lib.Dec.{ltb}
use borrow.Author.Tests.{leb-true, ltb-false, ltb-true}
use lib.Seq.{drop-drop, sets, take-add}
use Rattle.model.specs.declared.Place.{Place}
use Rattle.model.specs.Bytes.{put}
use Rattle.model.specs.State.{State, state}
use Rattle.model.specs.Screens.{place_of}
use Rattle.model.specs.Rules.{late_step, printed, right, stored, tracked}
use Rattle.model.proofs.LateWrap.{late_step-not}
use Rattle.model.proofs.Tests.{and_left, and_right}
use Rattle.ground.specs.declared.Frame.{Frame}
use Rattle.runs.specs.declared.Run.{Run}
use Rattle.ground.specs.Frame.{Ready}
use Rattle.ground.specs.Acts.{Acts, ActsAbove, ActsWith, Reads, with_here}
use Rattle.ground.specs.Here.{cell_in, lost}
use Rattle.ground.specs.Spots.{further_by, empty_from}
use Rattle.runs.specs.Run.{Fitting, Part, Printing, Ran, WholeRun, all_print?, laid_all, printed_all, prints?}
use Rattle.cursor.specs.Uncovers.{Uncovers}
use Rattle.ground.proofs.Acting.{placed-there}
use Rattle.ground.proofs.Carried.{likewise_with, still_with, then_above_with, then_with, unmarked_acts}
use Rattle.ground.proofs.Cells.{cell_room}
use Rattle.runs.proofs.Chunks.{laid_acts, laid_one}
use Rattle.cursor.proofs.Moves.{late_not}
use Rattle.ground.proofs.Rows.{put-sets}
use Rattle.cursor.proofs.ShownLaws.{Spot, spot_of}

-- bytes behind others
printed_more : (xs ys : List ℕ) (st : State) → printed_all (xs ++ ys) st ≡ printed_all ys (printed_all xs st)
unfolding printed_all
printed_more [] ys st = refl
printed_more (x ∷ xs) ys st = printed_more xs ys (printed x st)

-- the bytes of m from an offset on, as far as another
pub bytes_more : (m : List ℕ) (from at to : ℕ) → from ≤ at → at ≤ to → take (to - from) (drop from m) ≡ take (at - from) (drop from m) ++ take (to - at) (drop at m)
bytes_more m from at to h k =
    let n : to - from ≡ (at - from) + (to - at) = omega arith in
    let d : from + (at - from) ≡ at = omega arith in
    rw (n, take-add (at - from) (to - at) (drop from m), drop-drop (at - from) from m, d)

-- no byte
pub beyond : (m : List ℕ) (at : ℕ) → length m ≤ at → get_or m at 0 ≡ 0
beyond [] at h = refl
beyond (x ∷ xs) zero h = absurd (omega (arith, h))
beyond (x ∷ xs) (suc n) h = beyond xs n (omega (arith, h))

-- a byte that prints is there
pub there : (m : List ℕ) (at : ℕ) → prints? m at ≡ true → at < length m
there m at h = go (ltb at (length m)) refl
  where
    go : (b : Bool) → ltb at (length m) ≡ b → at < length m
    go true e = ltb-true at (length m) e
    go false e = absurd (omega (arith, beyond m at (ltb-false at (length m) e), leb-true 32 (get_or m at 0) h))

-- bytes that print, and those behind them
pub printing_more : {m : List ℕ} {at to end : ℕ} → Printing m at to → Printing m to end → Printing m at end
printing_more {m} {at} {to} {end} h k = record { some = omega (arith, h.some, k.some); inside = k.inside; print = λ j u v. go j u v (ltb j to) refl }
  where
    go : (j : ℕ) → at ≤ j → j < end → (b : Bool) → ltb j to ≡ b → prints? m j ≡ true
    go j u v true e = h.print j u (ltb-true j to e)
    go j u v false e = k.print j (ltb-false j to e) v

pub printing_one : {m : List ℕ} {at : ℕ} → prints? m at ≡ true → Printing m at (at + 1)
printing_one {m} {at} h = record {
  some = omega arith;
  inside = omega (arith, there m at h);
  print = λ j u v. let z : at ≡ j = omega (arith, u, v) in subst (λ (n : ℕ). prints? m n ≡ true) z h;
}

-- a block of bytes, one more of it, and each of it
module _ (m : List ℕ) (at : ℕ) where
  pub all_more : (n : ℕ) {all : Bool} → all ≡ all_print? m at n → (all && prints? m (at + n)) ≡ all_print? m at (n + 1)
  unfolding all_print?
  all_more n e = rw (e, add-one n)

  each : (n : ℕ) → all_print? m at n ≡ true → (j : ℕ) → at ≤ j → j < at + n → prints? m j ≡ true
  unfolding all_print?
  each zero h j u v = absurd (omega (arith, u, v))
  each (suc n) h j u v = go (each n (and_left (all_print? m at n) (prints? m (at + n)) h)) (ltb j (at + n)) refl
    where
      go : ((j : ℕ) → at ≤ j → j < at + n → prints? m j ≡ true) → (b : Bool) → ltb j (at + n) ≡ b → prints? m j ≡ true
      go before true i = before j u (ltb-true j (at + n) i)
      go before false i = let z : at + n ≡ j = omega (arith, v, ltb-false j (at + n) i) in subst (λ (k : ℕ). prints? m k ≡ true) z (and_right (all_print? m at n) (prints? m (at + n)) h)

  pub all_printing : (n : ℕ) → 1 ≤ n → all_print? m at n ≡ true → Printing m at (at + n)
  all_printing n some h = record { some = omega (arith, some); inside = omega (arith, some, there m (at + (n - 1)) (each n h (at + (n - 1)) (omega arith) (omega (arith, some)))); print = each n h }

  pub too_few : (n : ℕ) → length m - at < n → false ≡ all_print? m at n
  too_few n few = go (all_print? m at n) refl
    where
      go : (b : Bool) → all_print? m at n ≡ b → false ≡ all_print? m at n
      go true e = absurd (omega (arith, few, (all_printing n (omega (arith, few)) e).inside))
      go false e = sym e

-- P9: a step that waited may be made before the bytes are laid down, if none waits behind it
late_step_first : (bs : List ℕ) (st : State) → 1 ≤ length bs → late_step (late_step st) ≡ late_step st → laid_all bs st ≡ laid_all bs (late_step st)
unfolding laid_all printed
late_step_first [] st h e = absurd (omega (arith, h))
late_step_first (b ∷ []) st h e = ap (stored b) (sym e)
late_step_first (b ∷ d ∷ bs) st h e = ap (λ (x : State). laid_all (d ∷ bs) (tracked (right (stored b x)))) (sym e)

-- the rest of the last one's rule
printed_laid : (bs : List ℕ) (st : State) → 1 ≤ length bs → printed_all bs st ≡ tracked (right (laid_all bs st))
unfolding printed_all laid_all printed
printed_laid [] st h = absurd (omega (arith, h))
printed_laid (b ∷ []) st h = refl
printed_laid (b ∷ d ∷ bs) st h = printed_laid (d ∷ bs) (tracked (right (stored b (late_step st)))) (omega arith)

-- the bytes from an offset up to `at` were printed
pub record Along (m : List ℕ) (f : Frame) (from : ℕ) (p : Place) (c l k : List ℕ) (at : ℕ) (q : Place) (c' l' k' : List ℕ) : Type 0 where
  pub low : from ≤ at
  pub acts : ActsWith (printed_all (take (at - from) (drop from m))) f p q c l k c' l' k'

module _ {m : List ℕ} {f : Frame} {p : Place} {c l k : List ℕ} where
  pub along_none : (from : ℕ) → Ready f p c l → length k ≡ 2 → Along m f from p c l k from p c l k
  unfolding printed_all
  along_none from r n = record { low = omega arith; acts = let z : from - from ≡ 0 = omega arith in likewise_with (λ s ds e i j. rw z) (still_with r n) }

  -- a part that stays in the line
  pub part_many : {at to : ℕ} {r : Run} {c₁ l₁ : List ℕ} → length k ≡ 2 → at < to → r.at ≡ to → Acts (printed_all (take (to - at) (drop at m))) f p r.place c l c₁ l₁ → Part m at to f p r c l k c₁ l₁ k
  part_many n h e a = record { some = omega (arith, h, e); most = omega (arith, e); acts = rw e (unmarked_acts n a) }

  pub along_part : {from at to : ℕ} {q : Place} {r : Run} {c₁ l₁ k₁ c₂ l₂ k₂ : List ℕ} → Along m f from p c l k at q c₁ l₁ k₁ → Part m at to f q r c₁ l₁ k₁ c₂ l₂ k₂ → Along m f from p c l k r.at r.place c₂ l₂ k₂
  along_part {from} {at} {r = r} a w = record {
    low = omega (arith, a.low, w.some);
    acts = likewise_with (λ s ds i j o. rw (bytes_more m from at r.at a.low (omega (arith, w.some))) (printed_more _ _ _)) (then_with a.acts w.acts);
  }

  pub along_all : {at to : ℕ} {r : Run} {c₁ l₁ k₁ : List ℕ} → WholeRun m at to → r.at ≡ to → Along m f at p c l k r.at r.place c₁ l₁ k₁ → Ran m at f p r c l k c₁ l₁ k₁
  along_all {at} h e a = record { run = subst (WholeRun m at) (sym e) h; acts = a.acts }

-- bytes laid down behind the step that waited
module _ {f : Frame} {p q : Place} {c l k c₀ l₀ k₀ : List ℕ} (w : ActsWith late_step f p q c l k c₀ l₀ k₀) where
  laid_behind : (bs : List ℕ) {n : ℕ} {s : Place} {c₁ l₁ : List ℕ} → 1 ≤ length bs → q.column + length bs ≤ f.columns + 1 → (2 ≤ length bs → Reads lost f q false) → Spot f q n
      → s ≡ further_by (length bs - 1) q → c₁ ≡ sets c₀ (cell_in f q) bs → l₁ ≡ empty_from n (length bs) l₀ → ActsWith (laid_all bs) f p s c l k c₁ l₁ k₀
  unfolding laid_all place_of
  laid_behind [] h g seen i a b d = absurd (omega (arith, h))
  laid_behind (x ∷ []) h g seen i a b d = likewise_with (λ s ds u v o. refl) (then_with w (unmarked_acts w.marks_are (laid_one x w.ready i a b d)))
  laid_behind (x ∷ y ∷ ys) h g seen i a b d =
      let still = late_not w.ready.stands (omega arith) in
      let e : length (x ∷ y ∷ ys) - 1 ≡ length (y ∷ ys) = omega arith in
      likewise_with (λ s ds u v o.
      let st : State = state (with_here s q k₀) c₀ l₀ ds in
      let t : late_step (state s c l ds) ≡ st = w.does s ds u v o in
      late_step_first (x ∷ y ∷ ys) (state s c l ds) h (ap late_step t ∙ late_step-not st (ap (λ (z : Place). z.late) (placed-there q u) ∙ still) ∙ sym t))
      (then_with w (unmarked_acts w.marks_are (laid_acts x (y ∷ ys) w.ready still (omega arith) (λ o. seen (omega arith)) i (rw e at a) b d)))

  -- those of a message that the line has room for
  module _ (m : List ℕ) (at to n : ℕ) (h : Fitting f q (to - at) n) (g : to ≤ length m) where
    pub line_laid : {e : ℕ} {s : Place} {c₁ l₁ : List ℕ} → e ≡ cell_in f q → c₁ ≡ put e (take n (drop at m)) c₀ → Uncovers f q n l₀ l₁ → s ≡ further_by (n - 1) q
        → ActsWith (laid_all (take n (drop at m))) f p s c l k c₁ l₁ k₀
    line_laid i a d b =
        let bs : List ℕ = take n (drop at m) in
        let z : length bs ≡ n = simp (length-take, length-drop) (omega (arith, h.some, h.most)) in
        laid_behind bs (omega (arith, z, h.some)) (omega (arith, z, h.room)) (λ o. h.seen (omega (arith, z, o))) (spot_of d.shows) (rw z b)
        (rw (a, i) (put-sets (cell_in f q) bs c₀ (omega (arith, z, h.room, cell_room w.ready.stands, w.ready.cells_are)))) (rw z d.is)

    -- and the step behind them
    pub part_line : {s t : Place} {r : Run} {c₁ l₁ c₂ l₂ k₂ l₃ : List ℕ} → r.at ≡ at + n → ActsWith (laid_all (take n (drop at m))) f p s c l k c₁ l₁ k₀ → ActsWith right f s t c₁ l₁ k₀ c₂ l₂ k₂
        → ActsAbove tracked f t r.place l₂ l₃ → Part m at to f p r c l k c₂ l₃ k₂
    part_line {r = r} i a b d =
        let z : r.at - at ≡ n = omega (arith, i) in
        let bs : List ℕ = take n (drop at m) in
        let some : length bs ≡ n = simp (length-take, length-drop) (omega (arith, h.some, h.most)) in
        record {
          some = omega (arith, i, h.some);
          most = omega (arith, i, h.some, h.most);
          acts = rw z (likewise_with (λ u ds x y v. printed_laid bs (state u c l ds) (omega (arith, some, h.some))) (then_above_with (then_with a b) d));
        }
