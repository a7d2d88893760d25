-- The comparisons are those of the ranges.
use Rattle.soundness.proofs.Chains.{alone_of}
use Rattle.soundness.proofs.alone.Goals as goal

pub returns : goal.returns
returns c =
    let a = c.args in alone_of a.kind a.display a.p
