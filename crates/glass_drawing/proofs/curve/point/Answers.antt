-- `point`: by whether one of the six dots is on.
use Rattle.std.proofs.Common.{rules}
use Rattle.glass_drawing.specs.Curve.{raised}
use Rattle.glass_drawing.proofs.curve.point.Goals as goal

pub returns : goal.returns
unfolding raised
returns c =
    search rules
