-- `decoding::longest` meets its contract: arm by arm, by the row that the byte picks; behind the last row it is 10.
use mathlib.Core.Path.{◌≡◌}
use Prim.Native.Nat.{ℕ, ◌+◌}
use native.Mathlib.Omega.{arith}
use Rattle.model.specs.Sequences.{find}
use Rattle.decoding.specs.Decoding.{kind_from}
use Rattle.decoding.proofs.DecodingLaws.{handed_on}
use Rattle.decoding.proofs.longest.Goals as goal

behind : (at : ℕ) → at + 2 + 1 ≡ at + 3
behind at = omega arith

pub returns-in-224 : goal.returns-in-224
unfolding kind_from find
returns-in-224 c =
    simp (c.in-224.is, c.byte.ensures, behind)

pub returns-in-198 : goal.returns-in-198
unfolding kind_from find
returns-in-198 c =
    rw c.in-198.is (cc)

pub returns-in_default : goal.returns-in_default
unfolding kind_from find
returns-in_default c =
    rw (handed_on 41 2 _ c.in_default.in_default-own.rest)
