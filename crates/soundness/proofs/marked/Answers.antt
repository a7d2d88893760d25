-- `marked` meets its contract: by the marks of each screen.
use mathlib.Core.Bool.{◌&&◌}
use Rattle.model.specs.Screens.{lines_of}
use Rattle.model.specs.Sound.{marks?}
use Rattle.soundness.proofs.marked.Goals as goal

pub returns : goal.returns
unfolding marks? lines_of
returns c =
    λ i. c.marked_in-one.ensures i && c.marked_in-two.ensures i
