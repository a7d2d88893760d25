-- The rows of a pattern: bytes taken out of the message together are its bytes listed one by one.
use mathlib.Core.Path.{◌≡◌, ◌∙◌, ap, refl}
use Prim.Native.Nat.{ℕ, zero, suc, ◌+◌, ◌≤◌}
use native.Mathlib.Omega.{arith}
use mathlib.Core.List.{List, ◌∷◌}
use lib.ListN.{length, get_or, take, drop}
use lib.Seq.{drop-cons}
use Rattle.model.specs.Bytes.{list_from}

pub taken_listed : (m : List ℕ) (at n : ℕ) → at + n ≤ length m → take n (drop at m) ≡ list_from (λ o. get_or m o 0) at n
taken_listed m at zero h = refl
taken_listed m at (suc n) h =
    ap (take (suc n)) (drop-cons m at 0 (omega arith)) ∙ ap (λ (l : List ℕ). get_or m at 0 ∷ l) (taken_listed m (suc at) n (omega arith))
