-- `drawing::stroke` meets its contract: the line is drawn from start to end, by the mask and the function that the bytes say.
use mathlib.Core.Path.{◌∙◌, refl, sym}
use Rattle.model.proofs.Tests.{differ}
use Rattle.drawing.proofs.Strokes.{ends_on, stroke_does}
use Rattle.drawing.proofs.Strokes.{no-stroke}
use borrow.Enum.Refused.{opened}
use Rattle.drawing.proofs.stroke.Goals as goal

pub line-requires : goal.line-requires
line-requires c =
    let z = ends_on c.in-DrawLine.is c.requires c.point_of.ensures c.point_of-in-DrawLine.ensures in
    (z.0, (z.1, c.told-dots))

pub returns-in-DrawLine : goal.returns-in-DrawLine
returns-in-DrawLine c =
    (refl, stroke_does c.in-DrawLine.is c.point_of.ensures c.point_of-in-DrawLine.ensures c.two_bytes.ensures.0 c.line.ensures)

pub returns-in_default : goal.returns-in_default
returns-in_default c = let n =
    no-stroke c.args.q (opened c.in_default.in_default-own.keys2) in (refl, record { does = λ e. absurd (differ (sym e ∙ n)); left = λ e. refl })
