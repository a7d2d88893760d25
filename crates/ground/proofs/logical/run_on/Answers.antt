-- `run_on_lem` meets its contract: one mark is set.
use mathlib.Core.Path.{refl}
use Prim.Native.Nat.{◌<◌, ◌^◌}
use native.Mathlib.Omega.{arith}
use lib.ListN.{get_or}
use Rattle.ground.proofs.LogicalLaws.{run_on_made}
use Rattle.ground.proofs.logical.run_on.Goals as goal

pub returns : goal.returns
returns c =
    let a = c.args in let small : get_or a.marks.now a.frame.screen 0 < 2 ^ 64 = omega (arith, c.fits-marks a.frame.screen) in
    run_on_made a.line (omega arith) (omega arith) refl c.bit.ensures refl small
