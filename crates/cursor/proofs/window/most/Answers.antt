-- `window::most` meets its contract: the window ends on the last line.
use native.Mathlib.Omega.{arith}
use Rattle.cursor.proofs.window.most.Goals as goal

pub overflow_add-result : goal.overflow_add-result
overflow_add-result c =
    omega arith

pub overflow_sub-result : goal.overflow_sub-result
overflow_sub-result c =
    omega arith

pub returns : goal.returns
returns c =
    omega arith
