-- The comparisons are those of the ranges.
use Rattle.soundness.proofs.Chains.{mode_3}
use Rattle.soundness.proofs.curve.Goals as goal

pub returns : goal.returns
returns c =
    let a = c.args in mode_3 a.lines1 a.lines2 a.columns1 a.columns2 a.mode
