-- `control` meets its contract: a step and the tracking for 8, 10 and 13, clearing for 12, nothing for another code.
use native.Mathlib.Omega.{arith}
use borrow.Author.Rules.{rules}
use Rattle.model.specs.Rules.{control}
use Rattle.ground.proofs.Acting.{then_above}
use Rattle.ground.proofs.Carried.{dots_aside, then_above_with, unmarked_acts}
use Rattle.cursor.proofs.Moves.{back_acts, column_acts, no_code}
use Rattle.screen.proofs.control.Goals as goal

pub track-requires : goal.track-requires
unfolding control
track-requires c =
    let a = back_acts c.requires.ready c.before-in-8.ensures c.put_at-next.ensures in record { stands = a.ready.stands; layer_of = a.ready.layer_are }

pub track-requires-in-10 : goal.track-requires-in-10
unfolding control
track-requires-in-10 c =
    let a = c.down-next.ensures.0 in record { stands = a.ready.stands; layer_of = a.ready.layer_are }

pub track-requires-in-13 : goal.track-requires-in-13
unfolding control
track-requires-in-13 c =
    let a = column_acts c.requires.ready 1 (omega arith) (omega arith) c.put_at-next-in-13.ensures in record { stands = a.ready.stands; layer_of = a.ready.layer_are }

pub returns-in-8 : goal.returns-in-8
unfolding control
returns-in-8 c =
    rw c.in-8.is (dots_aside (unmarked_acts (search rules) (then_above (back_acts c.requires.ready c.before-in-8.ensures c.put_at-next.ensures) c.track.ensures)))

pub returns-in-10 : goal.returns-in-10
unfolding control
returns-in-10 c =
    rw c.in-10.is (dots_aside (then_above_with c.down-next.ensures.0 c.track-in-10.ensures))

pub returns-in-13 : goal.returns-in-13
unfolding control
returns-in-13 c =
    rw c.in-13.is (dots_aside (unmarked_acts (search rules) (then_above (column_acts c.requires.ready 1 (omega arith) (omega arith) c.put_at-next-in-13.ensures) c.track-in-13.ensures)))

pub returns-in-12 : goal.returns-in-12
unfolding control
returns-in-12 c =
    rw c.in-12.is c.clear.ensures

pub returns-in_default : goal.returns-in_default
unfolding control
returns-in_default c =
    let n = c.in_default.in_default-own.rest in dots_aside (unmarked_acts (search rules) (no_code c.args.code c.requires.ready n.0.0.0.1 n.0.0.1 n.0.1 n.1))
