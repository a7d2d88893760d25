-- The comparisons are those of the ranges; lines − (H − 1) is lines + 1 − H.
use Rattle.soundness.proofs.Chains.{window}
use Rattle.soundness.proofs.inside.Goals as goal

pub returns : goal.returns
returns c =
    let a = c.args in
    rw (c.minus-top.ensures, c.most_late-most.ensures) (window a.rule a.lines a.columns a.less a.p)
