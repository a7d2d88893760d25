-- By the test of the mode.
use mathlib.Core.Path.{◌∙◌, sym}
use Rattle.model.proofs.Keep.{both_there, one_there}
use Rattle.soundness.proofs.screens_of.Goals as goal

pub returns-then-mode-eq3 : goal.returns-then-mode-eq3
returns-then-mode-eq3 c s e =
    sym (one_there s (e ∙ c.if-mode-eq3.true))

pub returns-else-mode-eq3 : goal.returns-else-mode-eq3
returns-else-mode-eq3 c s e =
    sym (both_there s (λ f. c.if-mode-eq3.false (sym e ∙ f)))
