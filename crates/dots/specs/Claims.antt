-- Document 02, P11: what holds of every dot, every line and the store after it, said of the model's definitions (Dot, Strokes), which the code's promises name.
use Rattle.std.specs.Prelude.{◌≡◌, ℕ, ◌≤◌, min, max, List, length}
use Rattle.model.specs.declared.Point.{Point}
use Rattle.model.specs.Dot.{OnScreen, dot_at, wanted, with_dot}
use Rattle.model.specs.Strokes.{line_dot, lined, longer, mask_bit}

-- between the end points, on both axes
pub record InBox (from to p : Point) : Type 0 where
  pub above : min from.v to.v ≤ p.v
  pub below : p.v ≤ max from.v to.v
  pub left : min from.h to.h ≤ p.h
  pub right : p.h ≤ max from.h to.h

-- where the dots of a line lie
pub record Places (from to : Point) : Type 0 where
  -- dot 0 is the start, and dot N the end
  pub start : line_dot from to 0 ≡ from
  pub end : line_dot from to (longer from to) ≡ to
  -- no dot leaves the box of the end points
  pub in_box : (k : ℕ) → k ≤ longer from to → InBox from to (line_dot from to k)
  -- no two lie at one place, so none is acted on twice
  pub once : (j k : ℕ) → j ≤ longer from to → k ≤ longer from to → line_dot from to j ≡ line_dot from to k → j ≡ k

-- 199, for a dot on the screen
pub record PutDot (on : ℕ) (p : Point) (dots : List ℕ) : Type 0 where
  -- the dot is on or off as it was asked for
  pub done : dot_at p.v p.h (with_dot on p.v p.h dots) ≡ on
  -- no other dot changes
  pub others : (q : Point) → OnScreen q → (p ≡ q → ⊥) → dot_at q.v q.h (with_dot on p.v p.h dots) ≡ dot_at q.v q.h dots
  pub size : length (with_dot on p.v p.h dots) ≡ length dots

-- 198, for ends on the screen
pub record Drawn (function mask : ℕ) (from to : Point) (dots : List ℕ) : Type 0 where
  -- a dot of the line whose mask bit is 1 becomes what the function wants of what it was
  pub acts : (k : ℕ) → k ≤ longer from to → mask_bit mask k ≡ 1
      → dot_at (line_dot from to k).v (line_dot from to k).h (lined function mask from to dots) ≡ wanted function (dot_at (line_dot from to k).v (line_dot from to k).h dots)
  -- every other dot stays
  pub others : (q : Point) → OnScreen q → ((k : ℕ) → k ≤ longer from to → mask_bit mask k ≡ 1 → line_dot from to k ≡ q → ⊥)
      → dot_at q.v q.h (lined function mask from to dots) ≡ dot_at q.v q.h dots
  pub size : length (lined function mask from to dots) ≡ length dots
