-- `judging::dot` meets its contract: in mode 3 the tests of its number, of its row, then of its column.
use mathlib.Core.Path.{◌∙◌, refl}
use Rattle.model.specs.Checks.{member, passes}
use Rattle.model.specs.Sequences.{idle?}
use Rattle.judging.proofs.JudgingLaws.{behind_free, drawn_elsewhere, drawn_there, fails, holds, last, leaving}
use Rattle.judging.proofs.dot.Goals as goal

pub returns-then-mode-ne3 : goal.returns-then-mode-ne3
unfolding passes member idle?
returns-then-mode-ne3 c s e =
    drawn_elsewhere _ s _ e refl c.if-mode-ne3.true

pub returns-in_err-in_range : goal.returns-in_err-in_range
unfolding passes member idle?
returns-in_err-in_range c s e =
    rw (leaving _ c.from_residual.ensures) (drawn_there _ s _ e refl _ c.if-mode-ne3.false (fails 1 _ _ (c.in_err-in_range.ensures ∙ rw c.within.ensures)))

pub returns-in_err-in_range-2 : goal.returns-in_err-in_range-2
unfolding passes member idle?
returns-in_err-in_range-2 c s e =
    rw (leaving _ c.from_residual-in_err-in_range-2.ensures)
    (drawn_there _ s _ e refl _ c.if-mode-ne3.false
    (holds 1 _ _ (c.in_ok-in_range.ensures ∙ rw c.within.ensures) (fails 2 _ _ (c.in_err-in_range-2.ensures ∙ rw c.within-2.ensures))))

pub returns : goal.returns
unfolding passes member idle?
returns c s e =
    rw (c.in_range-3.ensures, c.up_to.ensures)
    (drawn_there _ s _ e refl _ c.if-mode-ne3.false
    (holds 1 _ _ (c.in_ok-in_range.ensures ∙ rw c.within.ensures)
    (holds 2 _ _ (c.in_ok-in_range-2.ensures ∙ rw c.within-2.ensures) (behind_free 3 _ _ (last 4 _)))))
