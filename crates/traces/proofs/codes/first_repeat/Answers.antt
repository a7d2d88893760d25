-- `first_repeat` is the definition; 64 bits hold it.
use native.Mathlib.Omega.{arith}
use Rattle.traces.specs.Codes.{first_repeat}
use Rattle.traces.proofs.codes.first_repeat.Goals as goal

pub returns : goal.returns
unfolding first_repeat
returns c =
    (omega arith, omega arith)
