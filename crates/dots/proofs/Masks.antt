-- "first byte's highest bit first", said again byte by byte.
use mathlib.Core.Path.{◌∙◌, ◌≡◌, ap}
use Prim.Native.Nat.{◌%◌, ◌*◌, ◌+◌, ◌-◌, ◌/◌, ◌<◌, ◌^◌, ◌≤◌, ℕ}
use native.Mathlib.Nat.{div-div-eq-div-mul}
use native.Mathlib.Omega.{arith}
use lib.Pow.{pow-add, pow_pos}
use Rattle.model.specs.Strokes.{mask_bit}
use Rattle.dots.proofs.Weights.{bit_below}

-- the mask of a first byte and a second one
module _ (first second k : ℕ) (small : second < 256) where
  -- bits 0 to 7 are the first byte's, from the highest
  pub mask_first : k % 16 < 8 → mask_bit (256 * first + second) k ≡ first / 2 ^ (7 - k % 16) % 2
  unfolding mask_bit
  mask_first l =
      let r = k % 16 in
      let n : 15 - r ≡ 8 + (7 - r) = omega arith in
      let e : 2 ^ (15 - r) ≡ 256 * 2 ^ (7 - r) = ap (λ (x : ℕ). 2 ^ x) n ∙ pow-add 2 8 (7 - r) in
      let b : (256 * first + second) / 256 ≡ first = omega arith in
      rw (e, ← div-div-eq-div-mul (256 * first + second) 256 (2 ^ (7 - r)), b)

  -- bits 8 to 15 are the second's
  pub mask_second : 8 ≤ k % 16 → mask_bit (256 * first + second) k ≡ second / 2 ^ (15 - k % 16) % 2
  unfolding mask_bit
  mask_second l =
      let r = k % 16 in
      let u = 2 ^ (15 - r) in
      let n : 8 ≡ (15 - r) + (1 + (r - 8)) = omega arith in
      let e : 256 ≡ u * (2 * 2 ^ (r - 8)) = ap (λ (x : ℕ). 2 ^ x) n ∙ pow-add 2 (15 - r) (1 + (r - 8)) ∙ ap (λ (x : ℕ). u * x) (pow-add 2 1 (r - 8)) in
      let h : first ≡ 2 * (first / 2) + first % 2 = omega arith in
      ap (λ (x : ℕ). (256 * x + second) / u % 2) h ∙ bit_below 256 (first / 2) (first % 2) second (omega arith) (omega arith) small u (2 ^ (r - 8)) (pow_pos (15 - r)) e
