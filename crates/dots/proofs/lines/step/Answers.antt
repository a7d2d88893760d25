-- `step`: by the mask's bit.
use Rattle.dots.proofs.Drawing.{stepped_off, stepped_on}
use Rattle.dots.proofs.lines.step.Goals as goal

pub returns-then-mask_bit-eq1 : goal.returns-then-mask_bit-eq1
returns-then-mask_bit-eq1 c =
    let a = c.args in
    λ v e. stepped_on a.function a.mask a.at.k v a.at.h a.dots.now c.mask_bit.ensures c.if-mask_bit-eq1.true (c.change_dot.ensures v e)

pub returns-else-mask_bit-eq1 : goal.returns-else-mask_bit-eq1
returns-else-mask_bit-eq1 c =
    let a = c.args in
    λ v e. stepped_off a.function a.mask a.at.k v a.at.h a.dots.now c.mask_bit.ensures c.if-mask_bit-eq1.false
