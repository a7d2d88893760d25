-- The comparisons are those of `ruled`.
use mathlib.Core.Path.{refl}
use Rattle.calls.specs.Opening.{ruled}
use Rattle.numbers.proofs.ruled.Goals as goal

pub returns : goal.returns
unfolding ruled
returns c =
    refl
