-- `judging::region` meets its contract: its tests are those of the two checks.
use Rattle.model.specs.Checks.{passes}
use Rattle.judging.proofs.JudgingLaws.{two}
use Rattle.judging.proofs.region.Goals as goal

pub returns : goal.returns
unfolding passes
returns c =
    rw (c.both.ensures, c.within-2.ensures, c.within.ensures, c.saturating_sub.ensures) (two 1 _ _)
