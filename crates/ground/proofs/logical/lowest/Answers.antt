-- `lowest` meets its contract: a mask of so many bits.
use mathlib.Core.Path.{◌∙◌, ap}
use Prim.Native.Nat.{◌-◌, ℕ}
use native.Mathlib.Omega.{arith}
use lib.Bits.{and_mask, bit_and}
use lib.Pow.{pow_pos}
use Rattle.ground.proofs.logical.lowest.Goals as goal

pub overflow_sub-result : goal.overflow_sub-result
overflow_sub-result c =
    omega (arith, c.bit.ensures, pow_pos c.args.count)

pub returns : goal.returns
returns c =
    let a = c.args in ap (λ (x : ℕ). bit_and a.number (x - 1)) c.bit.ensures ∙ and_mask a.number a.count
