-- `mask_bit`: a shift to the right is the quotient by a power of two.
use mathlib.Core.Path.{refl}
use Rattle.model.specs.Strokes.{mask_bit}
use Rattle.dots.proofs.lines.mask_bit.Goals as goal

pub returns : goal.returns
unfolding mask_bit
returns c =
    refl
