-- `all_zero`: no byte that was seen is greater than `any`, so where it is 0, all are; and of zeros it stays 0.
use mathlib.Core.Path.{◌≡◌}
use Prim.Native.Nat.{◌<◌, ◌≤◌, ℕ}
use lib.ListN.{get_or, length, replicate}
use Rattle.store.proofs.all_zero.Given as goal

abbrev pub invariant-loop-byte : goal.invariant-loop-byte
invariant-loop-byte l = ((k : ℕ) → k < l.byte-index → get_or l.region k 0 ≤ l.any) × (l.region ≡ replicate (length l.region) 0 → l.any ≡ 0)
