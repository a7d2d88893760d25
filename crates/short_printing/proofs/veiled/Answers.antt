-- `veiled`: by the test of secret mode.
use borrow.Author.Tests.{eq-eqb, ne_eqb}
use Rattle.short_printing.proofs.veiled.Goals as goal

pub returns-then-secret-eq1 : goal.returns-then-secret-eq1
returns-then-secret-eq1 c =
    simp (eq-eqb _ _ c.if-secret-eq1.true)

pub returns-else-secret-eq1 : goal.returns-else-secret-eq1
returns-else-secret-eq1 c =
    simp (ne_eqb _ _ c.if-secret-eq1.false)
