-- `bit` meets its contract: nothing is shifted out.
use native.Mathlib.Omega.{arith}
use mathlib.Core.Path.{◌∙◌}
use lib.Pow.{shl_exact}
use native.Mathlib.Nat.{one-mul}
use Prim.Native.Nat.{◌^◌}
use Rattle.ground.proofs.logical.bit.Goals as goal

pub returns : goal.returns
returns c =
    shl_exact {a = 1} 1 c.args.n 64 (omega arith) (omega arith) ∙ one-mul (2 ^ c.args.n)
