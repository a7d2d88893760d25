-- `shown` meets its contract: above the window, in its rows, in the right half of mode 1, below it.
use native.Mathlib.Omega.{arith}
use Rattle.cursor.proofs.ShownLaws.{shown_above, shown_below, shown_far, shown_near}
use Rattle.cursor.proofs.shown.Goals as goal

pub returns-then-place : goal.returns-then-place
returns-then-place c =
    shown_above c.if-place.true

pub returns-then-row-frame : goal.returns-then-row-frame
returns-then-row-frame c =
    shown_near (omega arith) (omega arith) (omega arith)

pub returns-then-row-frame-2 : goal.returns-then-row-frame-2
returns-then-row-frame-2 c =
    shown_far (omega arith) (omega arith) (omega arith) (omega arith)

pub returns : goal.returns
returns c =
    shown_below (omega arith) (omega arith) (omega arith)
