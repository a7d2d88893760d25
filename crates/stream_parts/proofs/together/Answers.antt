-- By which of the two has refusals.
use borrow.Author.Tests.{eq-eqb, ne_eqb}
use Rattle.stream_parts.proofs.together.Goals as goal

pub returns-then-one-ne0 : goal.returns-then-one-ne0
returns-then-one-ne0 c =
    rw (ne_eqb _ _ c.if-one-ne0.true)

pub returns-then-two-ne0 : goal.returns-then-two-ne0
returns-then-two-ne0 c =
    rw (eq-eqb _ _ c.if-one-ne0.false, ne_eqb _ _ c.if-two-ne0.true)

pub returns-else-two-ne0 : goal.returns-else-two-ne0
returns-else-two-ne0 c =
    rw (eq-eqb _ _ c.if-one-ne0.false, eq-eqb _ _ c.if-two-ne0.false)
