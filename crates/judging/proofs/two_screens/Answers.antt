-- `judging::two_screens` meets its contract: its tests are those of the mode's checks.
use Rattle.model.specs.Checks.{passes}
use Rattle.judging.proofs.JudgingLaws.{behind_free, two}
use Rattle.judging.proofs.two_screens.Goals as goal

pub returns : goal.returns
unfolding passes
returns c s =
    rw c.both.ensures (behind_free 1 _ _ (two 2 _ _))
