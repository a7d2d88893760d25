-- `added` meets its contract: three sums, and by whether a call before has a refusal.
use borrow.Author.Tests.{eq-eqb, ne_eqb}
use Rattle.glass.proofs.totals.added.Goals as goal

pub returns-then-total-eq0 : goal.returns-then-total-eq0
returns-then-total-eq0 c =
    rw (c.capped.ensures, c.capped-2.ensures, c.capped-3.ensures, eq-eqb _ _ c.if-total-eq0.true)

pub returns : goal.returns
returns c =
    rw (c.capped.ensures, c.capped-2.ensures, c.capped-3.ensures, ne_eqb _ _ c.if-total-eq0.false)
