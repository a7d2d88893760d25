-- The code's `|` and `^` put a bit in its place: what a byte and a weight both have is the byte's bit.
use mathlib.Core.Path.{◌∙◌, ◌≡◌, ap, ap₂, subst, sym}
use Prim.Native.Nat.{◌%◌, ◌*◌, ◌+◌, ◌-◌, ◌/◌, ◌<◌, ◌^◌, ◌≤◌, suc, zero, ℕ}
use native.Mathlib.Nat.{div-add-mod', mod-lt}
use native.Mathlib.Omega.{arith}
use lib.Bits.{and_block, and_mask, and_zero_r, bit_and, bit_or, bit_xor, or_add_and, xor_add_and}
use lib.Pow.{pow_pos}
use borrow.Author.Tests.{ne_eqb}
use Rattle.model.specs.Dot.{bit_of, wanted, weight, with_bit}
use Rattle.dots.proofs.Weights.{split, weight_pos, weight_pow}

and_weight : (byte h : ℕ) → bit_and byte (weight h) ≡ bit_of (weight h) byte * weight h
and_weight byte h =
    let w = weight h in
    let k = 7 - h % 8 in
    let e = weight_pow h in
    let parts : byte ≡ byte / w * 2 ^ k + byte % w = sym (div-add-mod' byte w) ∙ ap (λ (x : ℕ). byte / w * x + byte % w) e in
    let one : w ≡ 1 * 2 ^ k + 0 = e ∙ omega arith in
    let small : byte % w < 2 ^ k = subst (λ (x : ℕ). byte % w < x) e (mod-lt byte (weight_pos h)) in
    ap₂ bit_and parts one ∙ and_block k (byte / w) 1 (byte % w) 0 small (pow_pos k) ∙ ap₂ (λ (x y : ℕ). x * 2 ^ k + y) (and_mask (byte / w) 1) (and_zero_r (byte % w))
    ∙ ap (λ (x : ℕ). bit_of w byte * x + 0) (sym e) ∙ omega arith

-- a sum with the bit's weight, the bit taken out of it once or twice
summed : (byte w bit x : ℕ) → bit * w ≤ byte → x + bit * w ≡ byte + w → (x - w ≡ byte - bit * w + 0 * w) × (x ≡ byte - bit * w + 1 * w)
summed byte w bit x l e = (omega arith, omega arith)

turned : (byte w bit x : ℕ) → bit < 2 → bit * w ≤ byte → x + bit * w * 2 ≡ byte + w → x ≡ byte - bit * w + (1 - bit) * w
turned byte w zero x two l e = omega arith
turned byte w (suc zero) x two l e = omega arith
turned byte w (suc (suc bit)) x two l e = absurd (omega arith)

-- the three ways of `change`
module _ (byte h : ℕ) where
  taken : bit_of (weight h) byte * weight h ≤ byte
  taken = let s = (split (weight h) byte 0).0 in omega arith

  both : (bit_or byte (weight h) - weight h ≡ with_bit 0 (weight h) byte) × (bit_or byte (weight h) ≡ with_bit 1 (weight h) byte)
  both = summed byte (weight h) (bit_of (weight h) byte) (bit_or byte (weight h)) taken (rw (← and_weight byte h) (or_add_and byte (weight h)))

  over : bit_xor byte (weight h) ≡ with_bit (1 - bit_of (weight h) byte) (weight h) byte
  over =
      turned byte (weight h) (bit_of (weight h) byte) (bit_xor byte (weight h)) (omega arith) taken (rw (← and_weight byte h) (xor_add_and byte (weight h)))

  module _ {w : ℕ} (e : w ≡ weight h) where
    pub weight_held : w ≤ bit_or byte w
    weight_held = rw e (omega (arith, taken, both.1))

    pub changed_off : {f : ℕ} → f ≡ 1 → bit_or byte w - w ≡ with_bit (wanted f (bit_of (weight h) byte)) (weight h) byte
    changed_off g = rw (g, e) both.0

    pub changed_on : {f : ℕ} → f ≡ 2 → bit_or byte w ≡ with_bit (wanted f (bit_of (weight h) byte)) (weight h) byte
    changed_on g = rw (g, e) both.1

    pub changed_over : (f : ℕ) → (f ≡ 1 → ⊥) → (f ≡ 2 → ⊥) → bit_xor byte w ≡ with_bit (wanted f (bit_of (weight h) byte)) (weight h) byte
    changed_over f p q = rw (ne_eqb f 1 p, ne_eqb f 2 q, e) over
