-- `judging::placing` meets its contract: the tests of line and column.
use Rattle.model.specs.Checks.{passes}
use Rattle.judging.proofs.JudgingLaws.{two}
use Rattle.judging.proofs.placing.Goals as goal

pub returns : goal.returns
unfolding passes
returns c =
    rw (c.both.ensures, c.shifted-2.ensures, c.shifted.ensures) (two 1 _ _)
