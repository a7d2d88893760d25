-- `judging::stroke` meets its contract: the start's checks, then the end's, then that of the function.
use Rattle.model.specs.Checks.{passes}
use Rattle.judging.proofs.JudgingLaws.{all_hold, behind_free, last, leaving, no_check, no-stroke, some_fail}
use borrow.Enum.Refused.{opened}
use Rattle.judging.proofs.stroke.Goals as goal

pub returns-in_err-point-in-DrawLine : goal.returns-in_err-point-in-DrawLine
unfolding passes
returns-in_err-point-in-DrawLine c s =
    rw (c.in-DrawLine.is, leaving _ c.from_residual.ensures) (some_fail 1 _ _ (behind_free 1 _ _ c.in_err-point-in-DrawLine.ensures))

pub returns-in_err-point-in-DrawLine-2 : goal.returns-in_err-point-in-DrawLine-2
unfolding passes
returns-in_err-point-in-DrawLine-2 c s =
    rw (c.in-DrawLine.is, leaving _ c.from_residual-in_err-point-in-DrawLine-2.ensures)
    (all_hold 1 _ _ (behind_free 1 _ _ c.in_ok-point-in-DrawLine.ensures) (some_fail 5 _ _ (behind_free 5 _ _ c.in_err-point-in-DrawLine-2.ensures)))

pub returns-in_ok-point-in-DrawLine-2 : goal.returns-in_ok-point-in-DrawLine-2
unfolding passes
returns-in_ok-point-in-DrawLine-2 c s =
    rw (c.in-DrawLine.is, c.in_range.ensures, c.within.ensures)
    (all_hold 1 _ _ (behind_free 1 _ _ c.in_ok-point-in-DrawLine.ensures)
    (all_hold 5 _ _ (behind_free 5 _ _ c.in_ok-point-in-DrawLine-2.ensures) (behind_free 9 _ _ (behind_free 10 _ _ (last 11 _)))))

pub returns-in_default : goal.returns-in_default
unfolding passes
returns-in_default c s =
    rw (no-stroke _ (opened c.in_default.in_default-own.keys2)) no_check
