-- `right` meets its contract: a column further; in the last one it is late, or goes to column 1 of the next line, as the rule says.
use native.Mathlib.Omega.{arith}
use borrow.Author.Rules.{rules}
use Rattle.ground.proofs.Carried.{unmarked_acts}
use Rattle.cursor.proofs.Moves.{right_steps, right_late, right_wraps}
use Rattle.cursor.proofs.right.Goals as goal

pub returns-then-place-frame : goal.returns-then-place-frame
returns-then-place-frame c =
    unmarked_acts (search rules) (right_steps c.requires.ready c.if-place-frame.true c.put_at.ensures)

pub returns-then-frame-eq2 : goal.returns-then-frame-eq2
returns-then-frame-eq2 c =
    unmarked_acts (search rules) (right_late c.requires.ready c.if-place-frame.false (omega (arith, c.if-frame-eq2.true)) c.late_at.ensures)

pub returns-else-frame-eq2 : goal.returns-else-frame-eq2
returns-else-frame-eq2 c =
    right_wraps c.if-place-frame.false (λ e. omega (arith, e, c.if-frame-eq2.false)) c.onward.ensures
