-- The offset of dot k along the shorter axis, floor((2kd+N)/(2N)): it comes to d and no further, and grows by one where the remainder comes to 2N.
use mathlib.Core.Path.{◌∙◌, ◌≡◌}
use Prim.Native.Nat.{◌*◌, ◌+◌, ◌-◌, ◌<◌, ◌≤◌, suc, zero, ℕ}
use native.Mathlib.Nat.{div-eq_of_lt-le, div-lt_iff_lt-mul, div-zero, mul-le-mul_right}
use native.Mathlib.Omega.{arith}
use Rattle.model.specs.Strokes.{offset_at}
use Rattle.dots.specs.Walk.{Remains}

-- with N = 0 there is no offset
offset_none : (d k : ℕ) → offset_at 0 d k ≡ 0
unfolding offset_at
offset_none d k = div-zero (2 * k * d + 0)

offset_by : (N d k o r : ℕ) → 2 * k * d + N ≡ 2 * N * o + r → r < 2 * N → offset_at N d k ≡ o
unfolding offset_at
offset_by N d k o r e l = div-eq_of_lt-le {k = o} (2 * N) {m = 2 * k * d + N} (omega arith) (omega arith)

-- it starts at the start ..
pub offset_start : (N d : ℕ) → offset_at N d 0 ≡ 0
offset_start zero d = offset_none d 0
offset_start (suc m) d = offset_by (suc m) d 0 0 (suc m) (omega arith) (omega arith)

-- .. comes no further than the end ..
pub offset_le : (N d k : ℕ) → k ≤ N → offset_at N d k ≤ d
unfolding offset_at
offset_le zero d k l = omega (arith, offset_none d k)
offset_le (suc m) d k l =
    let a : (2 * k * d + suc m) < (d + 1) * (2 * suc m) = omega (arith, mul-le-mul_right d l) in
    let b = (div-lt_iff_lt-mul {k = 2 * suc m} {x = 2 * k * d + suc m} {y = d + 1} (omega arith)).1 a in
    omega arith

-- .. and comes there
pub offset_end : (N d : ℕ) → d ≤ N → offset_at N d N ≡ d
offset_end zero d l = offset_none d 0 ∙ omega arith
offset_end (suc m) d l = offset_by (suc m) d (suc m) d (suc m) (omega arith) (omega arith)

-- of equal distances both axes go by k: "(horizontal if equal)" decides nothing
pub offset_diagonal : (N k : ℕ) → k ≤ N → offset_at N N k ≡ k
offset_diagonal zero k l = offset_none 0 k ∙ omega arith
offset_diagonal (suc m) k l = offset_by (suc m) (suc m) k k (suc m) (omega arith) (omega arith)

pub remains_start : (N d : ℕ) → Remains N d 0 N
remains_start N d = record { exact = rw (offset_start N d) (omega arith); room = omega arith; below = λ p. omega arith }

-- from dot k to dot k + 1: the remainder has room for 2d, or the offset grows by one
module _ (N d k r : ℕ) (at : Remains N d k r) where
  module _ (l : r + 2 * d < 2 * N) where
    pub offset_same : offset_at N d (k + 1) ≡ offset_at N d k
    offset_same = offset_by N d (k + 1) (offset_at N d k) (r + 2 * d) (omega (arith, at.exact)) l

    pub remains_same : Remains N d (k + 1) (r + 2 * d)
    remains_same = record { exact = rw offset_same (omega (arith, at.exact)); room = omega arith; below = λ p. l }

  module _ (l : 2 * N ≤ r + 2 * d) (order : d ≤ N) (some : 0 < N) where
    pub offset_over : offset_at N d (k + 1) ≡ offset_at N d k + 1
    offset_over =
        offset_by N d (k + 1) (offset_at N d k + 1) (r + 2 * d - 2 * N) (omega (arith, at.exact)) (omega (arith, at.below some))

    pub remains_over : Remains N d (k + 1) (r + 2 * d - 2 * N)
    remains_over =
        record {
          exact = rw offset_over (omega (arith, at.exact));
          room = omega (arith, at.below some);
          below = λ p. omega (arith, at.below some);
        }
