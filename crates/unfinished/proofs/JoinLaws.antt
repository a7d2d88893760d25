-- Bytes at the front of zeros: padded; and waiting bytes with a piece's behind them.
use mathlib.Core.Path.{◌∙◌, ◌≡◌, ap, refl, sym}
use Prim.Native.Nat.{ℕ, zero, suc, ◌+◌, ◌-◌, ◌≤◌}
use native.Mathlib.Nat.{sub-zero}
use native.Mathlib.Omega.{arith}
use mathlib.Core.List.{List, ◌++◌, append_assoc}
use lib.ListN.{drop, length, length-append, replicate, take}
use lib.Seq.{length-take-le, take_at}
use Rattle.model.specs.Line.{padded}

drop_zeros : (n k : ℕ) → k ≤ n → ◌≡◌ {A = List ℕ} (drop k (replicate n 0)) (replicate (n - k) 0)
drop_zeros zero zero h = refl
drop_zeros zero (suc k) h = absurd (omega arith)
drop_zeros (suc n) zero h = ap (λ (x : ℕ). replicate {A = ℕ} x 0) (sym (sub-zero (suc n)))
drop_zeros (suc n) (suc k) h = drop_zeros n k (omega arith) ∙ ap (λ (x : ℕ). replicate {A = ℕ} x 0) less
  where
    less : n - k ≡ suc n - suc k
    less = omega arith

pub pads : (rest : List ℕ) {l : List ℕ} → length rest ≤ 12 → l ≡ rest → l ++ drop (length rest) (replicate 12 0) ≡ padded rest
unfolding padded
pads rest h e = rw e (ap (λ (z : List ℕ). rest ++ z) (drop_zeros 12 (length rest) h))

-- so many bytes laid over the front, and others behind them
pub joins : (w m z rest : List ℕ) (held count : ℕ) {a b : List ℕ} → a ≡ take held w → b ≡ take count m → held ≤ length w → count ≤ length m
    → take (held + count) (take held (a ++ z) ++ (b ++ rest)) ≡ take held w ++ take count m
joins w m z rest held count e g h k =
    let front : List ℕ = take held w in
    let back : List ℕ = take count m in
    let n : length front ≡ held = length-take-le held w h in
    let both : length (front ++ back) ≡ held + count = length-append front back ∙ omega (arith, n, length-take-le count m k) in
    rw (e, g, take_at front z held n, ← append_assoc front back rest) (take_at (front ++ back) rest (held + count) both)
