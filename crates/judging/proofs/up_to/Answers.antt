-- `judging::up_to` meets its contract: nothing is below 0.
use mathlib.Core.Path.{◌≡◌, ap, sym}
use Prim.Native.Nat.{ℕ}
use native.Mathlib.Omega.{arith}
use mathlib.Core.Bool.{Bool, ◌&&◌}
use lib.Dec.{leb}
use borrow.Author.Tests.{le-leb}
use Rattle.model.specs.Checks.{passes}
use Rattle.model.specs.Dot.{two_bytes}
use Rattle.judging.proofs.up_to.Goals as goal

from_zero : (x m : ℕ) → leb x m ≡ (leb 0 x && leb x m)
from_zero x m = ap (λ (b : Bool). b && leb x m) (sym (le-leb 0 x (omega arith)))

pub returns : goal.returns
unfolding passes
returns c =
    let a = c.args in rw c.two_bytes.ensures.0 (from_zero (two_bytes a.high a.low) a.most)
