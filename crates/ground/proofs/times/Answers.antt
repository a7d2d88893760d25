-- `times` meets its contract: the product of two bytes is below 65,536.
use native.Mathlib.Omega.{arith}
use Rattle.ground.proofs.Cells.{product}
use Rattle.ground.proofs.times.Goals as goal

pub overflow_mul-result : goal.overflow_mul-result
overflow_mul-result c =
    record { fits = omega (arith, product c.from.ensures c.from-2.ensures (omega arith) (omega arith)) }

pub returns : goal.returns
returns c =
    product c.from.ensures c.from-2.ensures (omega arith) (omega arith)
