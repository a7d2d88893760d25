-- A bit of a byte, by its weight: what another in its place leaves.
use mathlib.Core.Path.{◌∙◌, ◌≡◌, ap, refl, sym}
use Prim.Native.Nat.{◌%◌, ◌*◌, ◌+◌, ◌-◌, ◌/◌, ◌<◌, ◌^◌, ◌≤◌, suc, zero, ℕ}
use native.Mathlib.Nat.{div-add-mod, div-div-eq-div-mul, div-eq_of_lt, mod-lt, mul-add-div, mul-add-mod_self_left, mul-le-mul_left, pow-succ'}
use lib.Pow.{pow-add}
use borrow.Author.Tests.{ltb-false, ltb-true}
use native.Mathlib.Omega.{arith}
use lib.Dec.{eqb, ltb}
use Rattle.model.proofs.Tests.{cond_at}
use Rattle.model.specs.Dot.{bit_of, wanted, weight, with_bit}
use Rattle.dots.proofs.Outcomes.{by_outcome}

-- what holds of the eight weights holds of every dot's
pub weights : (P : ℕ → Type 0) → P 128 → P 64 → P 32 → P 16 → P 8 → P 4 → P 2 → P 1 → (h : ℕ) → P (weight h)
unfolding weight
weights P a b c d e f g i h = go (h % 8) (mod-lt h (omega arith))
  where
    go : (r : ℕ) → r < 8 → P (128 / 2 ^ r)
    go zero l = a
    go (suc zero) l = b
    go (suc (suc zero)) l = c
    go (suc (suc (suc zero))) l = d
    go (suc (suc (suc (suc zero)))) l = e
    go (suc (suc (suc (suc (suc zero))))) l = f
    go (suc (suc (suc (suc (suc (suc zero)))))) l = g
    go (suc (suc (suc (suc (suc (suc (suc zero))))))) l = i
    go (suc (suc (suc (suc (suc (suc (suc (suc r)))))))) l = absurd (omega arith)

pub weight_pos : (h : ℕ) → 0 < weight h
weight_pos = weights (λ w. 0 < w) (omega arith) (omega arith) (omega arith) (omega arith) (omega arith) (omega arith) (omega arith) (omega arith)

pub wanted_below : (f on : ℕ) → wanted f on < 2
wanted_below f on = cond_at (λ x. x < 2) (eqb f 1) 0 _ (λ t. omega arith) (λ t. cond_at (λ x. x < 2) (eqb f 2) 1 (1 - on) (λ u. omega arith) (λ u. omega arith))

-- a byte by one of its weights: q above it, the bit n, r below it
module _ (w q n r : ℕ) (pos : 0 < w) (bit : n < 2) (rest : r < w) where
  pub this_bit : bit_of w (w * (2 * q + n) + r) ≡ n
  this_bit =
      let e : (w * (2 * q + n) + r) / w ≡ 2 * q + n + r / w = mul-add-div pos (2 * q + n) r in
      let z : r / w ≡ 0 = div-eq_of_lt rest in
      rw (e, z) (omega arith)

  -- a bit of less weight is in r
  pub bit_below : (u m : ℕ) → 0 < u → w ≡ u * (2 * m) → bit_of u (w * (2 * q + n) + r) ≡ bit_of u r
  bit_below u m p e =
      let a : w * (2 * q + n) + r ≡ u * (2 * (m * (2 * q + n))) + r = rw e (omega arith) in
      let b : (u * (2 * (m * (2 * q + n))) + r) / u ≡ 2 * (m * (2 * q + n)) + r / u = mul-add-div p (2 * (m * (2 * q + n))) r in
      rw (a, b) (mul-add-mod_self_left 2 (m * (2 * q + n)) (r / u))

  -- a bit of more weight is in q
  pub bit_above : (u m : ℕ) → u ≡ 2 * w * m → bit_of u (w * (2 * q + n) + r) ≡ q / m % 2
  bit_above u m e =
      let a : w * (2 * q + n) + r ≡ 2 * w * q + (w * n + r) = omega arith in
      let s : w * n ≤ w * 1 = mul-le-mul_left w (omega arith) in
      let b : (2 * w * q + (w * n + r)) / (2 * w) ≡ q + (w * n + r) / (2 * w) = mul-add-div (omega arith) q (w * n + r) in
      let z : (w * n + r) / (2 * w) ≡ 0 = div-eq_of_lt (omega arith) in
      let y : q + 0 ≡ q = omega arith in
      rw (e, a, ← div-div-eq-div-mul (2 * w * q + (w * n + r)) (2 * w) m, b, z, y)

-- a byte, and the byte with the bit n put in
module _ (w byte n : ℕ) where
  parts : (x q bit r : ℕ) → w * x + r ≡ byte → x ≡ 2 * q + bit → (byte ≡ w * (2 * q + bit) + r) × (byte - bit * w + n * w ≡ w * (2 * q + n) + r)
  parts x q bit r e g =
      let e₂ : byte ≡ w * (2 * q + bit) + r = sym e ∙ rw g in
      (e₂, omega arith)

  pub split : (byte ≡ w * (2 * (byte / w / 2) + bit_of w byte) + byte % w) × (with_bit n w byte ≡ w * (2 * (byte / w / 2) + n) + byte % w)
  split = parts (byte / w) (byte / w / 2) (bit_of w byte) (byte % w) (div-add-mod byte w) (omega arith)

-- the weights are powers of two
pub weight_pow : (h : ℕ) → weight h ≡ 2 ^ (7 - h % 8)
unfolding weight
weight_pow h = go (h % 8) (mod-lt h (omega arith))
  where
    go : (r : ℕ) → r < 8 → 128 / 2 ^ r ≡ 2 ^ (7 - r)
    go zero l = refl
    go (suc zero) l = refl
    go (suc (suc zero)) l = refl
    go (suc (suc (suc zero))) l = refl
    go (suc (suc (suc (suc zero)))) l = refl
    go (suc (suc (suc (suc (suc zero))))) l = refl
    go (suc (suc (suc (suc (suc (suc zero)))))) l = refl
    go (suc (suc (suc (suc (suc (suc (suc zero))))))) l = refl
    go (suc (suc (suc (suc (suc (suc (suc (suc r)))))))) l = absurd (omega arith)

power : (i e j : ℕ) → j ≡ suc i + e → 2 ^ j ≡ 2 * 2 ^ i * 2 ^ e
power i e j g = rw g (pow-add 2 (suc i) e ∙ ap (λ (x : ℕ). x * 2 ^ e) (pow-succ' 2 i))

-- the bit becomes what is put in its place ..
pub bit_here : (n byte h : ℕ) → n < 2 → bit_of (weight h) (with_bit n (weight h) byte) ≡ n
bit_here n byte h l =
    let w = weight h in
    ap (bit_of w) (split w byte n).1 ∙ this_bit w (byte / w / 2) n (byte % w) (weight_pos h) l (mod-lt byte (weight_pos h))

-- .. and every other bit stays
pub bit_there : (n byte h g : ℕ) → n < 2 → (h % 8 ≡ g % 8 → ⊥) → bit_of (weight g) (with_bit n (weight h) byte) ≡ bit_of (weight g) byte
bit_there n byte h g two ne =
    let w = weight h in
    let u = weight g in
    let q = byte / w / 2 in
    let old = bit_of w byte in
    let r = byte % w in
    let pos = weight_pos h in
    let small = mod-lt byte pos in
    let i = 7 - h % 8 in
    let j = 7 - g % 8 in
    let ends : (a : ℕ) → bit_of u (w * (2 * q + n) + r) ≡ a → bit_of u (w * (2 * q + old) + r) ≡ a → bit_of u (with_bit n w byte) ≡ bit_of u byte =
    λ a x y. ap (bit_of u) (split w byte n).1 ∙ x ∙ sym (ap (bit_of u) (split w byte n).0 ∙ y) in
    by_outcome (λ t. bit_of u (with_bit n w byte) ≡ bit_of u byte) (ltb i j)
    (λ t.
    let m = 2 ^ (j - i - 1) in
    let l = ltb-true i j t in
    let e : u ≡ 2 * w * m = weight_pow g ∙ power i (j - i - 1) j (omega arith) ∙ ap (λ (x : ℕ). 2 * x * m) (sym (weight_pow h)) in
    ends (q / m % 2) (bit_above w q n r pos two small u m e) (bit_above w q old r pos (omega arith) small u m e))
    (λ t.
    let m = 2 ^ (i - j - 1) in
    let l = ltb-false i j t in
    let e : w ≡ u * (2 * m) = weight_pow h ∙ power j (i - j - 1) i (omega arith) ∙ ap (λ (x : ℕ). 2 * x * m) (sym (weight_pow g)) ∙ omega arith in
    ends (bit_of u r) (bit_below w q n r pos two small u m (weight_pos g) e) (bit_below w q old r pos (omega arith) small u m (weight_pos g) e))
