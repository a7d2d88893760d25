-- `judging::point` meets its contract: by its two tests, each behind a high byte, which is free.
use mathlib.Core.Path.{◌∙◌}
use Prim.Native.Nat.{◌+◌}
use Rattle.judging.proofs.JudgingLaws.{behind_free, fails, holds, last, leaving, two_on}
use Rattle.judging.proofs.point.Goals as goal

pub returns-in_err-in_range : goal.returns-in_err-in_range
returns-in_err-in_range c =
    rw (leaving _ c.from_residual.ensures) (fails c.args.number _ _ (c.in_err-in_range.ensures ∙ rw c.up_to.ensures))

pub returns : goal.returns
returns c =
    rw (c.in_range-2.ensures, c.up_to-2.ensures, two_on c.args.number)
    (holds c.args.number _ _ (c.in_ok-in_range.ensures ∙ rw c.up_to.ensures) (behind_free (c.args.number + 1) _ _ (last (c.args.number + 1 + 1) _)))
