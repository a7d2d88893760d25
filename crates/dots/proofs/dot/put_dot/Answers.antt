-- `put_dot`: 199's 1 is the function 2, its 0 the function 1.
use mathlib.Core.Path.{◌∙◌, refl}
use native.Mathlib.Omega.{arith}
use Rattle.dots.proofs.Dots.{put_off, put_on}
use Rattle.dots.proofs.dot.put_dot.Goals as goal

pub returns-then-on-eq1 : goal.returns-then-on-eq1
returns-then-on-eq1 c =
    let a = c.args in
    c.change_dot.ensures a.p.v refl ∙ put_on a.p.v a.p.h a.dots.now (omega (arith, c.if-on-eq1.true))

pub returns-else-on-eq1 : goal.returns-else-on-eq1
returns-else-on-eq1 c =
    let a = c.args in
    c.change_dot-else-on-eq1.ensures a.p.v refl ∙ put_off a.p.v a.p.h a.dots.now (omega (arith, c.if-on-eq1.false, c.requires.1.0))
