-- The comparisons are those of the ranges.
use Rattle.soundness.proofs.Chains.{chosen_of}
use Rattle.soundness.proofs.chosen.Goals as goal

pub returns : goal.returns
returns c =
    let a = c.args in chosen_of a.screens a.selected a.step a.height
