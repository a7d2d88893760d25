-- The test of a line on which none waits: a count within its limit, and twelve zeros.
use mathlib.Core.Path.{◌≡◌, ap, refl}
use Prim.Native.Nat.{ℕ, zero, suc}
use native.Mathlib.Omega.{arith}
use mathlib.Core.Bool.{Bool, true, false, ◌&&◌}
use mathlib.Core.List.{List, [], ◌∷◌}
use lib.ListN.{length, replicate}
use Rattle.std.specs.Cmp.Lexicographic.{pointwise}
use lib.Dec.{eqb, leb}
use borrow.Author.Tests.{eqb-true, le-leb}
use Rattle.model.specs.Reading.{needed, unfinished?}
use Rattle.model.specs.Line.{limit, line?, zeros?}

-- equal to so many zeros
pub zeros_equal : (n : ℕ) (w : List ℕ) → length w ≡ n → pointwise eqb w (replicate n 0) ≡ zeros? w
unfolding zeros?
zeros_equal zero [] e = refl
zeros_equal zero (x ∷ w) e = absurd (omega arith)
zeros_equal (suc n) [] e = absurd (omega arith)
zeros_equal (suc n) (x ∷ w) e = ap (λ (t : Bool). eqb x 0 && t) (zeros_equal n w (omega arith))

-- none waits: nothing is asked of the bytes but that they are 0
pub quiet_by : (w : List ℕ) (h n : ℕ) → (eqb h 0 && leb n limit && zeros? w) ≡ (eqb h 0 && line? w h n)
unfolding line? unfinished? needed
quiet_by w h n = go (eqb h 0) refl
  where
    go : (t : Bool) → eqb h 0 ≡ t → (t && leb n limit && zeros? w) ≡ (t && line? w h n)
    go true e = rw (eqb-true h 0 e, le-leb 0 n (omega arith))
    go false e = refl
