-- `apart` meets its contract by its tests.
use borrow.Author.Tests.{eq-eqb, ne_eqb}
use Rattle.glass_drawing.specs.Drawing.{apart}
use Rattle.glass_drawing.proofs.drawing.apart.Goals as goal

pub returns-then-p-eq0 : goal.returns-then-p-eq0
unfolding apart
returns-then-p-eq0 c =
    rw (eq-eqb _ _ c.if-p-eq0.true)

pub returns : goal.returns
unfolding apart
returns c =
    rw (ne_eqb _ _ c.if-p-eq0.false, c.changed.ensures)
