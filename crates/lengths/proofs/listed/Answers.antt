-- `lengths::listed` meets its contract by the test of its branch.
use borrow.Author.Tests.{eq-eqb, ne_eqb}
use Rattle.lengths.proofs.listed.Goals as goal

pub returns-then-second-eq208 : goal.returns-then-second-eq208
returns-then-second-eq208 c =
    rw (eq-eqb _ _ c.if-second-eq208.true)

pub returns-else-second-eq208 : goal.returns-else-second-eq208
returns-else-second-eq208 c =
    rw (ne_eqb _ _ c.if-second-eq208.false) c.length_of.ensures
