-- `drawing::dot` meets its contract: the dot is in the row and the column that the bytes say.
use mathlib.Core.Path.{◌∙◌, refl}
use native.Mathlib.Omega.{arith}
use Rattle.model.specs.Dot.{with_dot}
use Rattle.drawing.proofs.dot.Goals as goal

pub put_dot-requires : goal.put_dot-requires
put_dot-requires c =
    let p = c.requires in
    (record { vertical = omega (arith, c.from.ensures, p.vertical); horizontal = omega (arith, c.two_bytes.ensures.0, p.horizontal) }, (p.number, c.told-dots))

pub returns : goal.returns
returns c =
    let a = c.args in
    (refl, c.put_dot.ensures ∙ (λ i. with_dot a.on (c.from.ensures i) (c.two_bytes.ensures.0 i) a.dots.now))
