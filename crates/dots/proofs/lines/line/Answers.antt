-- `line`: the longer distance is the horizontal one, or it is not.
use native.Mathlib.Omega.{arith}
use Rattle.dots.proofs.Places.{measured_flat, measured_steep}
use Rattle.dots.proofs.lines.line.Goals as goal

pub draw-requires : goal.draw-requires
draw-requires c =
    let pre = c.requires in
    record { measured = (measured_flat _ _ c.apart-across.ensures c.apart-down.ensures (omega (arith, c.if-down-across.true)), (pre.0, pre.1.0)); dots_len = pre.1.1 }

pub draw-requires-else-down-across : goal.draw-requires-else-down-across
draw-requires-else-down-across c =
    let pre = c.requires in
    record { measured = (measured_steep _ _ c.apart-across.ensures c.apart-down.ensures (omega (arith, c.if-down-across.false)), (pre.0, pre.1.0)); dots_len = pre.1.1 }
