-- `unmark_at` meets its contract: there is no line 0.
use Prim.Native.Nat.{◌<◌, ◌^◌}
use native.Mathlib.Omega.{arith}
use lib.ListN.{get_or}
use Rattle.ground.proofs.LogicalLaws.{no_line}
use Rattle.ground.proofs.logical.unmark_at.Goals as goal

pub returns-else-line-ge1 : goal.returns-else-line-ge1
returns-else-line-ge1 c =
    let a = c.args in let small : get_or a.marks.now a.frame.screen 0 < 2 ^ 64 = omega (arith, c.fits-marks a.frame.screen) in
    no_line a.line (omega arith) small
