-- `weight_of`: a shift to the right is the quotient by a power of two.
use mathlib.Core.Path.{refl}
use Rattle.model.specs.Dot.{weight}
use Rattle.dots.proofs.dot.weight_of.Goals as goal

pub returns : goal.returns
unfolding weight
returns c =
    refl
