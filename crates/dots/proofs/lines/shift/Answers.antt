-- `shift`: by the way.
use borrow.Author.Tests.{le-leb, lt-leb}
use Rattle.dots.proofs.lines.shift.Goals as goal

pub overflow_sub-result : goal.overflow_sub-result
overflow_sub-result c =
    c.requires.1 c.if-a-b.false

pub returns-then-a-b : goal.returns-then-a-b
returns-then-a-b c =
    simp (le-leb _ _ c.if-a-b.true)

pub returns-else-a-b : goal.returns-else-a-b
returns-else-a-b c =
    simp (lt-leb _ _ c.if-a-b.false)
