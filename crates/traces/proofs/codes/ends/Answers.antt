-- `ends` is the definition.
use mathlib.Core.Path.{refl}
use Rattle.traces.specs.Codes.{ends?}
use Rattle.traces.proofs.codes.ends.Goals as goal

pub returns : goal.returns
unfolding ends?
returns c =
    refl
