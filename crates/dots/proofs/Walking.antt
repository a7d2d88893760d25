-- The turn of the code's walk: what is carried at dot k leads to what is carried at dot k + 1, and says where dot k lies.
use mathlib.Core.Path.{◌∙◌, ◌≡◌, ap, refl, sym}
use Prim.Native.Nat.{◌*◌, ◌+◌, ◌-◌, ◌/◌, ◌<◌, ◌≤◌, ℕ}
use native.Mathlib.Omega.{arith}
use mathlib.Core.Bool.{Bool, cond, false, true}
use lib.Dec.{leb}
use borrow.Author.Tests.{leb-false, lt-leb}
use Rattle.model.specs.declared.Point.{Point}
use Rattle.model.specs.Dot.{OnScreen}
use Rattle.model.specs.Strokes.{distance, line_dot, offset_at, placed, towards}
use Rattle.dots.specs.Walk.{Carried, Measured, shifted}
use Rattle.dots.proofs.Outcomes.{by_outcome}
use Rattle.dots.proofs.Offsets.{offset_le, offset_over, offset_same, offset_start, remains_over, remains_same, remains_start}
use Rattle.dots.proofs.Places.{Within, in_order, in_row, line_seen, towards_start, within}

-- one further along an axis, by the column or by the row's first byte
module _ (a b j : ℕ) (l : j < distance a b) {x y : ℕ} where
  pub column_on : x ≡ towards a b j → y ≡ shifted a b x 1 → y ≡ towards a b (j + 1)
  column_on e g =
      g ∙ rw e (by_outcome (λ t. cond t (cond t (a + j) (a - j) + 1) (cond t (a + j) (a - j) - 1) ≡ cond t (a + (j + 1)) (a - (j + 1))) (leb a b) (λ t. omega arith) (λ t. let back = leb-false a b t in omega arith))

  pub row_on : x ≡ 60 * towards a b j → y ≡ shifted a b x 60 → y ≡ 60 * towards a b (j + 1)
  row_on e g =
      g ∙ rw e (by_outcome (λ t. cond t (60 * cond t (a + j) (a - j) + 60) (60 * cond t (a + j) (a - j) - 60) ≡ 60 * cond t (a + (j + 1)) (a - (j + 1))) (leb a b) (λ t. omega arith) (λ t. let back = leb-false a b t in omega arith))

-- before the end there is room on the way to it
before_row : (a b j : ℕ) → j < distance a b → b < a → 60 ≤ 60 * towards a b j
before_row a b j l back = rw (lt-leb a b back) (omega arith)

before_column : (a b j : ℕ) → j < distance a b → b < a → 1 ≤ towards a b j
before_column a b j l back = rw (lt-leb a b back) (omega arith)

both_on : (f : Bool) (x y : ℕ) → cond f x y + 1 ≡ cond f (x + 1) (y + 1)
both_on true x y = refl
both_on false x y = refl

pub carried_start : {from to : Point} {f : Bool} {N d : ℕ} → Measured from to f N d → OnScreen from → OnScreen to → Carried from to f N d 0 (60 * from.v) from.h N
unfolding placed
carried_start {from} {to} {f} {N} {d} m a b =
    record {
      row_is = rw (offset_start N d) (ap (λ (x : ℕ). 60 * x) (sym (go f from.v to.v)));
      column_is = rw (offset_start N d) (sym (go f from.h to.h));
      rest_is = remains_start N d;
      order = in_order from to f N d m;
      few = in_row from to f N d m a b;
    }
  where
    go : (f : Bool) (a b : ℕ) → towards a b (cond f 0 0) ≡ a
    go true a b = towards_start a b
    go false a b = towards_start a b

module _ {from to : Point} {f : Bool} {N d : ℕ} (m : Measured from to f N d) {k row h rest : ℕ} (at : Carried from to f N d k row h rest) where
  -- where dot k lies
  pub carried_dot : k ≤ N → (row ≡ 60 * (line_dot from to k).v) × (h ≡ (line_dot from to k).h)
  unfolding line_dot
  carried_dot l = rw (← m.axis, ← m.long, ← m.short) (at.row_is, at.column_is)

  -- its byte is in the store
  pub carried_byte : OnScreen from → OnScreen to → k ≤ N → row + h / 8 < 3840
  carried_byte a b l =
      let seen = line_seen from to a b k (omega (arith, m.long)) in
      let dot = carried_dot l in
      omega (arith, seen.vertical, seen.horizontal, dot.0, dot.1)

  abbrev o : ℕ
  o = offset_at N d k

  -- whether there is a dot further down or up, and further to the right or left
  abbrev pub Lower : Type 0
  Lower = cond f o k < distance from.v to.v

  abbrev pub Further : Type 0
  Further = cond f k o < distance from.h to.h

  -- what `shift` asks
  pub room_row : OnScreen from → OnScreen to → k ≤ N → Lower → (row + 60 < 4096) × (to.v < from.v → 60 ≤ row)
  unfolding placed
  room_row a b l more = (omega (arith, carried_byte a b l), λ back. rw at.row_is (before_row from.v to.v (cond f o k) more back))

  pub room_column : OnScreen from → OnScreen to → k ≤ N → Further → (h + 1 < 4096) × (to.h < from.h → 1 ≤ h)
  unfolding placed
  room_column a b l more =
      let seen = (line_seen from to a b k (omega (arith, m.long))).horizontal in
      (omega (arith, seen, (carried_dot l).1), λ back. rw at.column_is (before_column from.h to.h (cond f k o) more back))

  module _ (l : k < N) where
    -- the remainder comes to 2N: one along both axes
    module _ (full : 2 * N ≤ rest + 2 * d) where
      grown : offset_at N d (k + 1) ≡ o + 1
      grown = offset_over N d k rest at.rest_is full at.order (omega arith)

      ahead : Within from to f (k + 1) (o + 1)
      ahead = within from to f N d (k + 1) (o + 1) m (omega arith) (omega (arith, grown, offset_le N d (k + 1) (omega arith)))

      pub lower : Lower
      lower = omega (arith, ahead.down, both_on f o k)

      pub further : Further
      further = omega (arith, ahead.across, both_on f k o)

      pub next_both : {y x : ℕ} → y ≡ shifted from.v to.v row 60 → x ≡ shifted from.h to.h h 1 → Carried from to f N d (k + 1) y x (rest + 2 * d - 2 * N)
      unfolding placed
      next_both p q =
          record {
            row_is = rw (grown, ← both_on f o k) (row_on from.v to.v (cond f o k) lower at.row_is p);
            column_is = rw (grown, ← both_on f k o) (column_on from.h to.h (cond f k o) further at.column_is q);
            rest_is = remains_over N d k rest at.rest_is full at.order (omega arith);
            order = at.order;
            few = at.few;
          }

    -- it does not: one along the longer axis
    ahead_along : Within from to f (k + 1) o
    ahead_along = within from to f N d (k + 1) o m (omega arith) (offset_le N d k (omega arith))

    pub further_flat : f ≡ true → Further
    further_flat t = let a = rw t at ahead_along.across in rw t (omega (arith, a))

    pub lower_steep : f ≡ false → Lower
    lower_steep t = let a = rw t at ahead_along.down in rw t (omega (arith, a))

    module _ (room : rest + 2 * d < 2 * N) where
      kept : offset_at N d (k + 1) ≡ o
      kept = offset_same N d k rest at.rest_is room

      pub next_flat : f ≡ true → {x : ℕ} → x ≡ shifted from.h to.h h 1 → Carried from to f N d (k + 1) row x (rest + 2 * d)
      unfolding placed
      next_flat t q =
          record {
            row_is = at.row_is ∙ rw (kept, t);
            column_is = column_on from.h to.h (cond f k o) (further_flat t) at.column_is q ∙ rw (kept, t);
            rest_is = remains_same N d k rest at.rest_is room;
            order = at.order;
            few = at.few;
          }

      pub next_steep : f ≡ false → {y : ℕ} → y ≡ shifted from.v to.v row 60 → Carried from to f N d (k + 1) y h (rest + 2 * d)
      unfolding placed
      next_steep t p =
          record {
            row_is = row_on from.v to.v (cond f o k) (lower_steep t) at.row_is p ∙ rw (kept, t);
            column_is = at.column_is ∙ rw (kept, t);
            rest_is = remains_same N d k rest at.rest_is room;
            order = at.order;
            few = at.few;
          }
