-- By how many they are, and their first bytes.
use Rattle.unfinished.proofs.TestLaws.{begun_alone, begun_more, begun_none, begun_other}
use Rattle.unfinished.proofs.begun.Goals as goal

pub returns-then-held-eq0 : goal.returns-then-held-eq0
returns-then-held-eq0 c =
    begun_none _ _ _ _ c.if-held-eq0.true

pub returns-then-first-ne27 : goal.returns-then-first-ne27
returns-then-first-ne27 c =
    begun_other _ _ _ _ c.if-held-eq0.false c.if-first-ne27.true

pub returns-then-held-eq1 : goal.returns-then-held-eq1
returns-then-held-eq1 c =
    begun_alone _ _ _ _ c.if-held-eq1.true c.if-first-ne27.false

pub returns : goal.returns
returns c =
    rw c.from.ensures (begun_more _ _ _ _ c.if-held-eq0.false c.if-held-eq1.false c.if-first-ne27.false _ c.length_of.ensures)
