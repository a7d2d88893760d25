-- P5: the test of a screen's marks, by a shift.
use mathlib.Core.Path.{◌∙◌, ◌≡◌, refl, sym}
use Prim.Native.Nat.{◌/◌, ◌<◌, ◌^◌, ◌≤◌, ℕ}
use native.Mathlib.Nat.{div-eq_of_lt, le-div_iff_mul-le, lt_of_lt_of_le}
use native.Mathlib.Omega.{arith}
use mathlib.Core.Bool.{Bool, false, true}
use lib.Dec.{eqb, ltb}
use lib.Pow.{pow_mono, pow_pos}
use borrow.Author.Tests.{eq-eqb, lt-ltb, ltb-false, ltb-true, ne_eqb}

-- nothing is left of a number that has no more bits than are shifted out, and of no other
pub shifted_out : (n k : ℕ) → eqb (n / 2 ^ k) 0 ≡ ltb n (2 ^ k)
shifted_out n k = go (ltb n (2 ^ k)) refl
  where
    go : (b : Bool) → ltb n (2 ^ k) ≡ b → eqb (n / 2 ^ k) 0 ≡ ltb n (2 ^ k)
    go true e = eq-eqb (n / 2 ^ k) 0 (div-eq_of_lt (ltb-true n (2 ^ k) e)) ∙ sym e
    go false e =
        let h : 2 ^ k ≤ n = ltb-false n (2 ^ k) e in
        let some : 1 ≤ n / 2 ^ k = (le-div_iff_mul-le (pow_pos k)).1 (omega arith) in
        ne_eqb (n / 2 ^ k) 0 (λ z. omega arith) ∙ sym e

-- every number of the code has as few as 64
pub none-beyond : (n k : ℕ) → n < 2 ^ 64 → 64 ≤ k → true ≡ ltb n (2 ^ k)
none-beyond n k h l = sym (lt-ltb n (2 ^ k) (lt_of_lt_of_le h (pow_mono {i = 64} {j = k} l)))
