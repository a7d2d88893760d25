-- `onward` meets its contract: column 1, a line down, and the line above is marked.
use native.Mathlib.Omega.{arith}
use borrow.Author.Rules.{rules}
use Rattle.ground.proofs.Carried.{then_with, unmarked_acts}
use Rattle.cursor.proofs.Moves.{column_acts, onward_marks}
use Rattle.cursor.proofs.onward.Goals as goal

pub down-next-requires : goal.down-next-requires
down-next-requires c =
    record { ready = (column_acts c.requires.ready 1 (omega arith) (omega arith) c.put_at-first.ensures).ready }

pub overflow_sub-next : goal.overflow_sub-next
overflow_sub-next c =
    omega (arith, c.down-next.ensures.1)

pub run_on-requires : goal.run_on-requires
run_on-requires c =
    let done = c.down-next.ensures in record { le_line = (omega (arith, done.1), omega (arith, done.0.ready.stands)); screen_bound = done.0.ready.stands.screen_low }

pub returns : goal.returns
returns c =
    onward_marks (then_with (unmarked_acts (search rules) (column_acts c.requires.ready 1 (omega arith) (omega arith) c.put_at-first.ensures)) c.down-next.ensures.0) c.run_on.ensures
