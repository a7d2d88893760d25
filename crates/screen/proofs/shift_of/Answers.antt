-- `shift_of` meets its contract by the test of its branch.
use borrow.Author.Tests.{eq-eqb, ne_eqb}
use Rattle.screen.proofs.shift_of.Goals as goal

pub returns-then-mode-eq2 : goal.returns-then-mode-eq2
returns-then-mode-eq2 c =
    rw (eq-eqb _ _ c.if-mode-eq2.true)

pub returns-else-mode-eq2 : goal.returns-else-mode-eq2
returns-else-mode-eq2 c =
    rw (ne_eqb _ _ c.if-mode-eq2.false)
