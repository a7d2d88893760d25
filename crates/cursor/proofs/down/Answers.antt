-- `down` meets its contract: a line further down, or on the last line a lift; the cursor is put anew in both.
use native.Mathlib.Omega.{arith}
use borrow.Author.Rules.{rules}
use Rattle.ground.proofs.Carried.{unmarked_acts}
use Rattle.cursor.proofs.Moves.{down_lifts, down_moves}
use Rattle.cursor.proofs.down.Goals as goal

pub returns-then-place-frame : goal.returns-then-place-frame
returns-then-place-frame c =
    (unmarked_acts (search rules) (down_moves c.requires.ready c.if-place-frame.true c.put_at.ensures), rw c.put_at.ensures (omega arith))

pub returns-else-place-frame : goal.returns-else-place-frame
returns-else-place-frame c =
    (down_lifts c.if-place-frame.false c.lift.ensures c.put_at-else-place-frame.ensures, rw c.put_at-else-place-frame.ensures (omega arith))
