-- Printed characters as they are seen: some behind others, those that stay in the cursor's line, one by itself; and a run of them, part by part.
use mathlib.Core.Path.{◌∙◌, ◌≡◌, ap, refl, subst, sym}
use Prim.Native.Nat.{◌+◌, ◌-◌, ◌<◌, ◌≤◌, suc, min, ℕ}
use native.Mathlib.Omega.{arith}
use mathlib.Core.Bool.{Bool, ◌&&◌, ◌||◌, false, not, true}
use mathlib.Core.List.{List, [], ◌++◌, ◌∷◌}
use lib.ListN.{drop, get_or, length, length-drop, length-set, length-take, set, take}
use lib.Dec.{eqb, ltb}
use lib.Seq.{drop-cons}
use borrow.Author.Tests.{eq-eqb, lt-ltb}
use Rattle.model.specs.declared.Place.{Place}
use Rattle.model.specs.State.{State, put_at, state}
use Rattle.model.specs.Screens.{columns_here, here, place_of}
use Rattle.model.specs.Rules.{late_step, printed, right, stored, tracked}
use Rattle.calls.specs.Repaint.{lowest?, print_lifts?, print_place}
use Rattle.model.proofs.LateWrap.{late_step-not}
use Rattle.ground.specs.declared.Frame.{Frame}
use Rattle.ground.specs.Frame.{Framed, Ready}
use Rattle.ground.specs.Acts.{Acts, ActsWith, Reads, with_here, with_place}
use Rattle.ground.specs.Here.{lost, shown_here}
use Rattle.runs.specs.Run.{WholeRun, printed_all}
use Rattle.ground.proofs.Acting.{framed_placed, placed-there}
use Rattle.ground.proofs.Carried.{framed_here, likewise_with, then_with, unmarked_acts}
use Rattle.runs.proofs.Chunks.{printed_spot}
use Rattle.cursor.proofs.Moves.{late_not}
use Rattle.runs.proofs.Runs.{Along, along_all, along_none, along_part, bytes_more}
use Rattle.cursor.proofs.ShownLaws.{Spot, spot_next, spot_of}
use Rattle.cursor.proofs.Windows.{lost_next}
use Rattle.short_printing.specs.declared.Seen.{Seen}
use Rattle.short_printing.specs.Seen.{SeenPart, SeenRun, Sees, seen_all, shown_from, veiled, wide_all, wide_print}
use Rattle.short_printing.proofs.Rows.{set_spot}

or_assoc : (a b c : Bool) → ((a || b) || c) ≡ (a || (b || c))
or_assoc true b c = refl
or_assoc false b c = refl

pub or_none : (a : Bool) → (a || false) ≡ a
or_none true = refl
or_none false = refl

-- bytes behind others
wide_more : (xs ys : List ℕ) (st : State) → wide_all (xs ++ ys) st ≡ (wide_all xs st || wide_all ys (printed_all xs st))
unfolding wide_all printed_all
wide_more [] ys st = refl
wide_more (x ∷ xs) ys st = ap (λ (b : Bool). wide_print x st || b) (wide_more xs ys (printed x st)) ∙ sym (or_assoc (wide_print x st) (wide_all xs (printed x st)) (wide_all ys (printed_all xs (printed x st))))

seen_more : (secret : ℕ) (xs ys : List ℕ) (st : State) (l : List ℕ) → seen_all secret (xs ++ ys) st l ≡ seen_all secret ys (printed_all xs st) (seen_all secret xs st l)
unfolding seen_all printed_all
seen_more secret [] ys st l = refl
seen_more secret (x ∷ xs) ys st l = seen_more secret xs ys (printed x st) (set l (print_place st) (veiled secret x))

-- in the cursor's line, short of its last column, nothing lifts
line_lifts : {f : Frame} {p : Place} (st : State) → Framed st.settings f → here st ≡ p → p.late ≡ 0 → p.column < f.columns → print_lifts? st ≡ false
unfolding print_lifts?
line_lifts {p = p} st e h w k =
    let wait : (here st).late ≡ 0 = ap (λ (q : Place). q.late) h ∙ w in
    let short : ltb (here st).column (columns_here st) ≡ true = lt-ltb (here st).column (columns_here st) (omega (arith, ap (λ (q : Place). q.column) h, e.columns_are, k)) in
    ap (λ (a : State). (eqb (here st).late 1 && lowest? st) || (not (ltb (here a).column (columns_here a)) && (not (eqb a.settings.rule 2) && lowest? a))) (late_step-not st wait)
    ∙ (λ i. (eqb (wait i) 1 && lowest? st) || (not (short i) && (not (eqb st.settings.rule 2) && lowest? st)))

module _ {f : Frame} {secret : ℕ} where
  pub sees_none : {p : Place} {c l k x : List ℕ} → length x ≡ 640 → Sees [] f p secret false c l k x x
  unfolding wide_all seen_all
  sees_none n = record { wide_is = λ s ds e h i. refl; seen_is = λ s ds e h i. refl; size = n }

  pub sees_then : {bs cs : List ℕ} {p q : Place} {w v : Bool} {c l k x c₁ l₁ k₁ x₁ x₂ : List ℕ} → ActsWith (printed_all bs) f p q c l k c₁ l₁ k₁ → Sees bs f p secret w c l k x x₁ → Sees cs f q secret v c₁ l₁ k₁ x₁ x₂ → Sees (bs ++ cs) f p secret (w || v) c l k x x₂
  unfolding place_of
  sees_then {bs} {cs} {q = q} {c = c} {l = l} {k₁ = k₁} a u t = record {
    wide_is = λ s ds e h i.
        (λ j. u.wide_is s ds e h i j || (t.wide_is (with_here s q k₁) ds (framed_here q k₁ e) (placed-there q e) refl ∙ ap (wide_all cs) (sym (a.does s ds e h i))) j)
        ∙ sym (wide_more bs cs (state s c l ds));
    seen_is = λ s ds e h i.
        t.seen_is (with_here s q k₁) ds (framed_here q k₁ e) (placed-there q e) refl ∙ (λ j. seen_all secret cs (sym (a.does s ds e h i) j) (u.seen_is s ds e h i j))
        ∙ sym (seen_more secret bs cs (state s c l ds) _);
    size = t.size;
  }

  -- bytes that stay there, while the window does not move
  sees_line : (bs : List ℕ) {p : Place} {c l x : List ℕ} {n : ℕ} (k : List ℕ) → Ready f p c l → p.late ≡ 0 → p.column + length bs ≤ f.columns → Reads lost f p false → Spot f p n → length x ≡ 640
      → Sees bs f p secret false c l k x (shown_from secret n bs x)
  unfolding wide_all wide_print seen_all shown_from print_place
  sees_line [] k h w room j i z = sees_none z
  sees_line (b ∷ bs) {p} {c} {l} {x} {n} k h w room j i z =
      let v = printed_spot b h w (omega arith) j i in
      let q : Place = put_at p.line (suc p.column) p in
      let y : length (set x n (veiled secret b)) ≡ 640 = length-set x n (veiled secret b) ∙ z in
      let rest = sees_line bs k v.ready refl (omega arith) (lost_next (suc p.column) j) (spot_next h.stands.fits.column_low i) y in
      record {
        wide_is = λ s ds e o u.
            let st : State = state s c l ds in
            let lifts : print_lifts? st ≡ false = line_lifts st e o w (omega arith) in
            let top : (here (printed b st)).top ≡ (here st).top = ap (λ (a : State). (here a).top) (v.does s ds e o) ∙ ap (λ (a : Place). a.top) (placed-there q e) ∙ sym (ap (λ (a : Place). a.top) o) in
            sym (still st b lifts top (sym (rest.wide_is (with_place s q) ds (framed_placed q e) (placed-there q e) u ∙ ap (wide_all bs) (sym (v.does s ds e o)))));
        seen_is = λ s ds e o u.
            let st : State = state s c l ds in
            let wait : (here st).late ≡ 0 = ap (λ (a : Place). a.late) o ∙ w in
            let spot : set x n (veiled secret b) ≡ set x (print_place st) (veiled secret b) = set_spot x n (print_place st) (veiled secret b) z (sym (at_cursor st wait ∙ i.is st e o)) in
            rest.seen_is (with_place s q) ds (framed_placed q e) (placed-there q e) u ∙ (λ m. seen_all secret bs (sym (v.does s ds e o) m) (spot m));
        size = rest.size;
      }
    where
      still : (st : State) (b : ℕ) → print_lifts? st ≡ false → (here (printed b st)).top ≡ (here st).top → wide_all bs (printed b st) ≡ false → wide_all (b ∷ bs) st ≡ false
      still st b lifts top more = λ m. (lifts m || not (eq-eqb (here (printed b st)).top (here st).top top m)) || more m

      at_cursor : (st : State) → (here st).late ≡ 0 → min 640 (print_place st) ≡ min 640 (shown_here st)
      at_cursor st w = ap (λ (a : State). min 640 (shown_here a)) (late_step-not st w)

  -- so a part of a message painted from the place that shows the cursor's cell
  pub painted_line : {p : Place} {c l x x' : List ℕ} {n : ℕ} (m : List ℕ) (at count : ℕ) → Ready f p c l → 1 ≤ count → at + count ≤ length m → p.column + count ≤ f.columns → Reads lost f p false
      → Reads shown_here f p n → length x ≡ 640 → x' ≡ shown_from secret n (take count (drop at m)) x → (k : List ℕ) → Sees (take count (drop at m)) f p secret false c l k x x'
  painted_line {p} {c} {l} {x} m at count h some inside room j i z e k =
      let bs : List ℕ = take count (drop at m) in
      let size : length bs ≡ count = simp (length-take, length-drop) (omega arith) in
      subst (Sees bs f p secret false c l k x) (sym e) (sees_line bs k h (late_not h.stands (omega arith)) (omega arith) j (spot_of i) z)

  -- one by itself: the step that waited, then the character where the cursor stands
  pub sees_one : {p q r : Place} {b n : ℕ} {late last : Bool} {c l k x c₁ l₁ k₁ c₂ l₂ k₂ x' : List ℕ} → ActsWith late_step f p q c l k c₁ l₁ k₁
      → ActsWith (λ (st : State). tracked (right (stored b st))) f q r c₁ l₁ k₁ c₂ l₂ k₂ → length x ≡ 640 → late ≡ (eqb p.late 1 && not (ltb p.line f.lines))
      → last ≡ (not (ltb q.column f.columns) && (not (eqb f.rule 2) && not (ltb q.line f.lines))) → Reads shown_here f q n → x' ≡ set x n (veiled secret b)
      → Sees (b ∷ []) f p secret ((late || last) || not (eqb r.top p.top)) c l k x x'
  unfolding wide_all wide_print seen_all print_lifts? print_place lowest? printed place_of
  sees_one {p} {q} {r} {b} {late = late} {last} {c} {l} {k} {x} {c₁} {l₁} {k₁} {k₂ = k₂} a d z e₁ e₂ i y = record {
    wide_is = λ s ds e o u.
        let st : State = state s c l ds in
        let here₁ : State = state (with_here s q k₁) c₁ l₁ ds in
        let step : late_step st ≡ here₁ = a.does s ds e o u in
        let done : printed b st ≡ state (with_here s r k₂) _ _ ds = (then_with a d).does s ds e o u in
        let one : late ≡ (eqb (here st).late 1 && lowest? st) = e₁ ∙ (λ m. eqb (sym o m).late 1 && not (ltb (sym o m).line (e.lines_are m))) in
        let f₁ = framed_here q k₁ e in
        let there : here here₁ ≡ q = placed-there q e in
        let two : last ≡ (not (ltb (here here₁).column (columns_here here₁)) && (not (eqb here₁.settings.rule 2) && lowest? here₁)) =
        e₂ ∙ (λ m. not (ltb (sym there m).column (f₁.columns_are m)) && (not (eqb (f₁.rule_is m) 2) && not (ltb (sym there m).line (f₁.lines_are m)))) in
        let three : not (eqb r.top p.top) ≡ not (eqb (here (printed b st)).top (here st).top) =
        (λ m. not (eqb (sym (ap (λ (t : State). (here t).top) done ∙ ap (λ (t : Place). t.top) (placed-there r e)) m) (sym o m).top)) in
        (λ m. (one m || (two ∙ ap (λ (t : State). not (ltb (here t).column (columns_here t)) && (not (eqb t.settings.rule 2) && lowest? t)) (sym step)) m) || three m)
        ∙ sym (or_none _);
    seen_is = λ s ds e o u.
        let here₁ : State = state (with_here s q k₁) c₁ l₁ ds in
        let step : late_step (state s c l ds) ≡ here₁ = a.does s ds e o u in
        y ∙ ap (λ (n : ℕ). set x n (veiled secret b)) (sym (ap shown_here step ∙ i here₁ (framed_here q k₁ e) (placed-there q e)));
    size = ap length y ∙ length-set x _ (veiled secret b) ∙ z;
  }

-- the bytes of m from an offset up to `at` were printed and seen
pub record SeenAlong (m : List ℕ) (f : Frame) (secret from : ℕ) (p : Place) (c l k x : List ℕ) (at : ℕ) (q : Place) (w : Bool) (c' l' k' x' : List ℕ) : Type 0 where
  pub along : Along m f from p c l k at q c' l' k'
  pub sees : Sees (take (at - from) (drop from m)) f p secret w c l k x x'

module _ {m : List ℕ} {f : Frame} {secret : ℕ} {p : Place} {c l k x : List ℕ} where
  pub seen_none : (from : ℕ) → Ready f p c l → length k ≡ 2 → length x ≡ 640 → SeenAlong m f secret from p c l k x from p false c l k x
  seen_none from h n z = record { along = along_none from h n; sees = let y : from - from ≡ 0 = omega arith in rw y (sees_none z) }

  -- a part of one byte, of as many as stay in the line
  module _ {at to : ℕ} {r : Seen} {c₁ l₁ k₁ x₁ : List ℕ} where
    pub part_code : {b : ℕ} → at < to → to ≤ length m → r.at ≡ at + 1 → b ≡ get_or m at 0 → ActsWith (printed b) f p r.place c l k c₁ l₁ k₁ → Sees (b ∷ []) f p secret r.wide c l k x x₁
        → SeenPart m at to f p secret r c l k x c₁ l₁ k₁ x₁
    unfolding printed_all
    part_code {b} h j e i a u =
        let n : r.at - at ≡ 1 = omega (arith, e) in
        let bs : take (r.at - at) (drop at m) ≡ b ∷ [] = rw (n, drop-cons m at 0 (omega arith), i) in
        record { part = record { some = omega arith; most = omega arith; acts = likewise_with (λ s ds y z v. rw bs) a }; sees = rw bs u }

  module _ {at to : ℕ} {r : Seen} {c₁ l₁ x₁ : List ℕ} where
    pub part_line : {n : ℕ} → 1 ≤ n → at + n ≤ to → r.at ≡ at + n → r.wide ≡ false → length k ≡ 2 → Acts (printed_all (take n (drop at m))) f p r.place c l c₁ l₁
        → Sees (take n (drop at m)) f p secret false c l k x x₁ → SeenPart m at to f p secret r c l k x c₁ l₁ k x₁
    part_line {n} h j e w i a u =
        let z : r.at - at ≡ n = omega (arith, e) in
        record { part = record { some = omega arith; most = omega arith; acts = rw z (unmarked_acts i a) }; sees = rw (z, w) u }

  pub seen_part : {from at to : ℕ} {q : Place} {w : Bool} {r : Seen} {c₁ l₁ k₁ x₁ c₂ l₂ k₂ x₂ : List ℕ} → SeenAlong m f secret from p c l k x at q w c₁ l₁ k₁ x₁ → SeenPart m at to f q secret r c₁ l₁ k₁ x₁ c₂ l₂ k₂ x₂
      → SeenAlong m f secret from p c l k x r.at r.place (w || r.wide) c₂ l₂ k₂ x₂
  seen_part {from} {at} {r = r} a u = record {
    along = along_part a.along u.part;
    sees = rw (bytes_more m from at r.at a.along.low (omega (arith, u.part.some))) (sees_then a.along.acts a.sees u.sees);
  }

  pub seen_all_lem : {at to : ℕ} {r : Seen} {c₁ l₁ k₁ x₁ : List ℕ} → WholeRun m at to → r.at ≡ to → SeenAlong m f secret at p c l k x r.at r.place r.wide c₁ l₁ k₁ x₁ → SeenRun m at f p secret r c l k x c₁ l₁ k₁ x₁
  seen_all_lem h e a = record { ran = along_all h e a.along; sees = a.sees }
