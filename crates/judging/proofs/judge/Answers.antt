-- `judging::judge` meets its contract: a sequence by what `check` finds, then by `fit`.
use mathlib.Core.Path.{◌∙◌}
use Rattle.judging.proofs.JudgingLaws.{judged_bad, judged_good, unjudged}
use borrow.Enum.Refused.{opened}
use Rattle.judging.proofs.judge.Goals as goal

pub returns-in-Ok : goal.returns-in-Ok
returns-in-Ok c =
    rw c.in-Sequence.is (c.fit.ensures ∙ judged_good _ _ _ c.in-Ok.ensures)

pub returns-in-Err : goal.returns-in-Err
returns-in-Err c =
    rw c.in-Sequence.is (judged_bad _ _ _ c.in-Err.ensures)

pub returns-in_default : goal.returns-in_default
returns-in_default c =
    unjudged _ _ _ (opened c.in_default.in_default-own.keys2)
