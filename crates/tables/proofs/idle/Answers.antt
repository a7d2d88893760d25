-- `tables::idle` meets its contract: each arm computes it of the sequence that it names, and the last is for the others.
use mathlib.Core.Path.{sym}
use Rattle.model.specs.Checks.{member}
use Rattle.model.specs.Sequences.{idle?}
use Rattle.tables.proofs.IdleLaws.{elsewhere, never, there}
use borrow.Enum.Refused.{opened}
use Rattle.tables.proofs.idle.Goals as goal

pub returns-in-Step : goal.returns-in-Step
unfolding idle? member
returns-in-Step c =
    rw c.in-Step.is (there _)

pub returns-in-Tracking : goal.returns-in-Tracking
unfolding idle? member
returns-in-Tracking c =
    rw c.in-Tracking.is (there _)

pub returns-in-WindowUp : goal.returns-in-WindowUp
unfolding idle? member
returns-in-WindowUp c =
    rw c.in-WindowUp.is (there _)

pub returns-in-WindowDown : goal.returns-in-WindowDown
unfolding idle? member
returns-in-WindowDown c =
    rw c.in-WindowDown.is (there _)

pub returns-in-DrawLine : goal.returns-in-DrawLine
unfolding idle? member
returns-in-DrawLine c =
    rw c.in-DrawLine.is (elsewhere c.args.mode)

pub returns-in-DrawDot : goal.returns-in-DrawDot
unfolding idle? member
returns-in-DrawDot c =
    rw c.in-DrawDot.is (elsewhere c.args.mode)

pub returns-in-Select : goal.returns-in-Select
unfolding idle? member
returns-in-Select c =
    rw c.in-Select.is (there _)

pub returns-in-Display : goal.returns-in-Display
unfolding idle? member
returns-in-Display c =
    rw c.in-Display.is (there _)

pub returns-in-WindowTop : goal.returns-in-WindowTop
unfolding idle? member
returns-in-WindowTop c =
    rw c.in-WindowTop.is (there _)

pub returns-in-WindowBottom : goal.returns-in-WindowBottom
unfolding idle? member
returns-in-WindowBottom c =
    rw c.in-WindowBottom.is (there _)

pub returns-in-CursorKind : goal.returns-in-CursorKind
unfolding idle? member
returns-in-CursorKind c =
    rw c.in-CursorKind.is (there _)

pub returns-in-WindowCursor : goal.returns-in-WindowCursor
unfolding idle? member
returns-in-WindowCursor c =
    rw c.in-WindowCursor.is (there _)

pub returns-in_default : goal.returns-in_default
unfolding idle? member
returns-in_default c =
    let a = c.args in sym (never a.mode a.q (opened c.in_default.in_default-own.keys13))
