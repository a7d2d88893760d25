-- The comparisons are those of `sized`.
use mathlib.Core.Path.{refl}
use Rattle.calls.specs.Calls.{sized}
use Rattle.numbers.proofs.stores_sized.Goals as goal

pub returns : goal.returns
unfolding sized
returns c =
    refl
