-- The comparisons are those of `keyable`.
use mathlib.Core.Path.{refl}
use Rattle.model.specs.Keyable.{keyable}
use Rattle.numbers.proofs.keyable.Goals as goal

pub returns : goal.returns
unfolding keyable
returns c =
    refl
