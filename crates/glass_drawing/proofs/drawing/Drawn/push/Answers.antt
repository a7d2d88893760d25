-- `push`: a byte more is drawn, and behind it the zeros stay.
use mathlib.Core.Path.{◌∙◌, ap}
use native.Mathlib.Omega.{arith}
use Prim.Native.Nat.{◌<◌}
use lib.ListN.{length}
use Rattle.std.proofs.lemmas.List.{length-set, length-take-le}
use Rattle.glass_drawing.proofs.Strokes.{zeros_behind}
use Rattle.glass_drawing.proofs.drawing.Drawn.push.Goals as goal

pub invariant_of-self : goal.invariant_of-self
invariant_of-self c =
    let s = c.self.inside in
    let i = c.self.invariant in
    let room : s.length < 5120 = omega (arith, c.requires, ap length c.self.view_is, length-take-le s.length s.bytes (omega (arith, i.0, i.1))) in
    (omega arith, length-set s.bytes s.length c.args.byte ∙ i.1, zeros_behind s.bytes s.length 5120 c.args.byte room i.2)
