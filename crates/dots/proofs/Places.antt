-- Where the dots of a line lie: on the screen, in the box of the end points, the last at the end, and no two at one place.
use mathlib.Core.Path.{◌∙◌, ◌≡◌, ap, refl, sym}
use Prim.Native.Nat.{◌+◌, ◌-◌, ◌<◌, ◌≤◌, max, min, ℕ}
use native.Mathlib.Omega.{arith}
use mathlib.Core.Bool.{Bool, cond, false, true}
use lib.Dec.{leb}
use borrow.Author.Tests.{le-leb, leb-false, leb-true, lt-leb}
use Rattle.model.specs.declared.Point.{Point}
use Rattle.model.proofs.Tests.{cond_at}
use Rattle.model.specs.Dot.{OnScreen}
use Rattle.model.specs.Strokes.{distance, flat, line_dot, longer, offset_at, placed, shorter, towards}
use Rattle.dots.specs.Walk.{Measured}
use Rattle.dots.proofs.Outcomes.{by_outcome}
use Rattle.dots.proofs.Offsets.{offset_end, offset_le, offset_start}

-- k along the longer axis and o along the other come no further than the end
pub record Within (from to : Point) (f : Bool) (k o : ℕ) : Type 0 where
  pub down : cond f o k ≤ distance from.v to.v
  pub across : cond f k o ≤ distance from.h to.h

within_by : (f : Bool) (x y N d k o : ℕ) → f ≡ leb y x → N ≡ max x y → d ≡ min x y → k ≤ N → o ≤ d → (cond f o k ≤ y) × (cond f k o ≤ x)
within_by true x y N d k o e n m l h = let t = leb-true y x (sym e) in (omega arith, omega arith)
within_by false x y N d k o e n m l h = let t = leb-false y x (sym e) in (omega arith, omega arith)

pub within : (from to : Point) (f : Bool) (N d k o : ℕ) → Measured from to f N d → k ≤ N → o ≤ d → Within from to f k o
unfolding flat longer shorter
within from to f N d k o m l h =
    let both = within_by f (distance from.h to.h) (distance from.v to.v) N d k o m.axis m.long m.short l h in
    record { down = both.0; across = both.1 }

-- the shorter distance is no longer than the longer, and the longer has fewer dots than a row
module _ (from to : Point) (f : Bool) (N d : ℕ) (m : Measured from to f N d) where
  pub in_order : d ≤ N
  unfolding longer shorter
  in_order = order (distance from.h to.h) (distance from.v to.v) m.long m.short
    where
      order : (x y : ℕ) → N ≡ max x y → d ≡ min x y → d ≤ N
      order x y e g = omega arith

  pub in_row : OnScreen from → OnScreen to → N < 480
  unfolding longer
  in_row a b = below (distance from.h to.h) (distance from.v to.v) m.long (omega arith) (omega arith)
    where
      below : (x y : ℕ) → N ≡ max x y → x < 480 → y < 480 → N < 480
      below x y e g h = omega arith

-- the two ways of `line`
flat-by : (x y : ℕ) → y ≤ x → (true ≡ leb y x) × ((x ≡ max x y) × (y ≡ min x y))
flat-by x y l = (sym (le-leb y x l), (omega arith, omega arith))

steep_by : (x y : ℕ) → x < y → (false ≡ leb y x) × ((y ≡ max x y) × (x ≡ min x y))
steep_by x y l = (sym (lt-leb y x l), (omega arith, omega arith))

module _ (from to : Point) {x y : ℕ} (e : x ≡ distance from.h to.h) (g : y ≡ distance from.v to.v) where
  pub measured_flat : y ≤ x → Measured from to true x y
  unfolding flat longer shorter
  measured_flat l =
      let all = flat-by x y l in
      record { axis = all.0 ∙ rw (e, g); long = all.1.0 ∙ rw (e, g); short = all.1.1 ∙ rw (e, g) }

  pub measured_steep : x < y → Measured from to false y x
  unfolding flat longer shorter
  measured_steep l =
      let all = steep_by x y l in
      record { axis = all.0 ∙ rw (e, g); long = all.1.0 ∙ rw (e, g); short = all.1.1 ∙ rw (e, g) }

-- towards the end, by no more than the distance: between the two, at the end by the whole, and by each length at another place
module _ (a b : ℕ) where
  pub towards_box : (by : ℕ) → by ≤ distance a b → (min a b ≤ towards a b by) × (towards a b by ≤ max a b)
  towards_box by l =
      cond_at (λ x. (min a b ≤ x) × (x ≤ max a b)) (leb a b) (a + by) (a - by) (λ t. let t₂ = leb-true a b t in (omega arith, omega arith)) (λ t. let t₂ = leb-false a b t in (omega arith, omega arith))

  pub towards_end : towards a b (distance a b) ≡ b
  towards_end =
      cond_at (λ x. x ≡ b) (leb a b) (a + distance a b) (a - distance a b) (λ t. let t₂ = leb-true a b t in omega arith) (λ t. let t₂ = leb-false a b t in omega arith)

  pub towards_start : towards a b 0 ≡ a
  towards_start = cond_at (λ x. x ≡ a) (leb a b) (a + 0) (a - 0) (λ t. omega arith) (λ t. omega arith)

  pub towards_once : (x y : ℕ) → x ≤ distance a b → y ≤ distance a b → towards a b x ≡ towards a b y → x ≡ y
  towards_once x y l m =
      by_outcome (λ t. cond t (a + x) (a - x) ≡ cond t (a + y) (a - y) → x ≡ y) (leb a b) (λ t e. omega arith) (λ t e. let t₂ = leb-false a b t in omega arith)

pub same_point : (p q : Point) → p.v ≡ q.v → p.h ≡ q.h → p ≡ q
same_point p q e g = λ i. record { v = e i; h = g i }

-- the dots of a line
module _ (from to : Point) where
  whole : Measured from to (flat from to) (longer from to) (shorter from to)
  whole = record { axis = refl; long = refl; short = refl }

  abbrev o : ℕ → ℕ
  o k = offset_at (longer from to) (shorter from to) k

  inside : (k : ℕ) → k ≤ longer from to → Within from to (flat from to) k (o k)
  inside k l = within from to (flat from to) (longer from to) (shorter from to) k (o k) whole l (offset_le (longer from to) (shorter from to) k l)

  -- no dot outside the box of the end points
  pub line_box : (k : ℕ) → k ≤ longer from to
      → ((min from.v to.v ≤ (line_dot from to k).v) × ((line_dot from to k).v ≤ max from.v to.v)) × ((min from.h to.h ≤ (line_dot from to k).h) × ((line_dot from to k).h ≤ max from.h to.h))
  unfolding line_dot placed
  line_box k l =
      (towards_box from.v to.v (cond (flat from to) (o k) k) (inside k l).down, towards_box from.h to.h (cond (flat from to) k (o k)) (inside k l).across)

  -- so none off the screen
  pub line_seen : OnScreen from → OnScreen to → (k : ℕ) → k ≤ longer from to → OnScreen (line_dot from to k)
  line_seen a b k l = let box = line_box k l in record { vertical = omega arith; horizontal = omega arith }

  -- dot 0 is the start
  pub line_start : line_dot from to 0 ≡ from
  unfolding line_dot placed
  line_start =
      let none : o 0 ≡ 0 = offset_start (longer from to) (shorter from to) in
      same_point (line_dot from to 0) from
      (rw none (by_outcome (λ t. towards from.v to.v (cond t 0 0) ≡ from.v) (flat from to) (λ t. towards_start from.v to.v) (λ t. towards_start from.v to.v)))
      (rw none (by_outcome (λ t. towards from.h to.h (cond t 0 0) ≡ from.h) (flat from to) (λ t. towards_start from.h to.h) (λ t. towards_start from.h to.h)))

-- the distance along an axis is what the longer or the shorter is
ends_by : (x y : ℕ) → (cond (leb y x) (min x y) (max x y) ≡ y) × (cond (leb y x) (max x y) (min x y) ≡ x)
ends_by x y =
    by_outcome (λ t. (cond t (min x y) (max x y) ≡ y) × (cond t (max x y) (min x y) ≡ x)) (leb y x)
    (λ t. let t₂ = leb-true y x t in (omega arith, omega arith)) (λ t. let t₂ = leb-false y x t in (omega arith, omega arith))

module _ (from to : Point) where
  -- dot N is the end point
  pub line_end : line_dot from to (longer from to) ≡ to
  unfolding line_dot placed flat longer shorter
  line_end =
      let x = distance from.h to.h in
      let y = distance from.v to.v in
      let e : offset_at (max x y) (min x y) (max x y) ≡ min x y = offset_end (max x y) (min x y) (ordered x y) in
      let b = ends_by x y in
      same_point (line_dot from to (longer from to)) to
      (rw e (ap (towards from.v to.v) b.0 ∙ towards_end from.v to.v))
      (rw e (ap (towards from.h to.h) b.1 ∙ towards_end from.h to.h))
    where
      ordered : (x y : ℕ) → min x y ≤ max x y
      ordered x y = omega arith

  -- no dot twice
  pub line_once : (j k : ℕ) → j ≤ longer from to → k ≤ longer from to → (line_dot from to j).v ≡ (line_dot from to k).v → (line_dot from to j).h ≡ (line_dot from to k).h → j ≡ k
  unfolding line_dot placed
  line_once j k l m e g = go (flat from to) (inside from to j l) (inside from to k m) e g
    where
      go : (f : Bool) → Within from to f j (o from to j) → Within from to f k (o from to k)
          → towards from.v to.v (cond f (o from to j) j) ≡ towards from.v to.v (cond f (o from to k) k)
          → towards from.h to.h (cond f j (o from to j)) ≡ towards from.h to.h (cond f k (o from to k)) → j ≡ k
      go true p q e g = towards_once from.h to.h j k p.across q.across g
      go false p q e g = towards_once from.v to.v j k p.down q.down e
