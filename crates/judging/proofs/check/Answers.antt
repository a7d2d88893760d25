-- `judging::check` meets its contract: arm by arm, by the checks of its sequence.
use mathlib.Core.Path.{ap, refl}
use mathlib.Core.Bool.{Bool}
use Rattle.model.specs.Checks.{member, passes}
use Rattle.model.specs.declared.Limits.{Limits}
use Rattle.model.specs.declared.Sequence.{Sequence as Seq}
use Rattle.model.specs.Sequences.{code_of, idle?}
use Rattle.judging.proofs.JudgingLaws.{behind_free, but_there, drawn_elsewhere, drawn_there, in_any, last, none_bad, stroke_finds, two}
use borrow.Enum.Refused.{opened}
use Rattle.judging.proofs.check.Goals as goal

-- whether a sequence is idle under these limits
abbrev idleCode : Limits → Seq → Bool
idleCode s q = idle? s.mode (code_of q)

pub returns-in-Put : goal.returns-in-Put
unfolding passes member idle?
returns-in-Put c =
    rw c.in-Put.is (in_any _ _ _ refl c.placing.ensures)

pub returns-in-Charset : goal.returns-in-Charset
unfolding passes member idle?
returns-in-Charset c =
    rw (c.in-Charset.is, c.in_range.ensures, c.charset.ensures) (in_any _ _ _ refl (last 1 _))

pub returns-in-LinesUp : goal.returns-in-LinesUp
unfolding passes member idle?
returns-in-LinesUp c =
    rw c.in-LinesUp.is (in_any _ _ _ refl c.region.ensures)

pub returns-in-LinesDown : goal.returns-in-LinesDown
unfolding passes member idle?
returns-in-LinesDown c =
    rw c.in-LinesDown.is (in_any _ _ _ refl c.region-in-LinesDown.ensures)

pub returns-in-Step : goal.returns-in-Step
unfolding passes member idle?
returns-in-Step c =
    rw (c.in-Step.is, c.in_range-in-Step.ensures, c.within.ensures) (but_there _ _ _ refl refl)

pub returns-in-Tracking : goal.returns-in-Tracking
unfolding passes member idle?
returns-in-Tracking c =
    rw (c.in-Tracking.is, c.in_range-in-Tracking.ensures, c.within-in-Tracking.ensures) (but_there _ _ _ refl refl)

pub returns-then-limits-eq3 : goal.returns-then-limits-eq3
unfolding passes member idle?
returns-then-limits-eq3 c =
    let told = c.in-DrawLine.is in
    let s = c.args.limits in
    drawn_there _ s _ refl (ap (idleCode s) told) _ c.if-limits-eq3.true (stroke_finds s told refl (c.stroke.ensures s))

pub returns-else-limits-eq3 : goal.returns-else-limits-eq3
unfolding passes member idle?
returns-else-limits-eq3 c =
    let told = c.in-DrawLine.is in
    let s = c.args.limits in
    drawn_elsewhere _ s _ refl (ap (idleCode s) told) c.if-limits-eq3.false

pub returns-in-DrawDot : goal.returns-in-DrawDot
unfolding passes member idle?
returns-in-DrawDot c =
    rw c.in-DrawDot.is (c.dot.ensures c.args.limits refl)

pub returns-in-Mode0 : goal.returns-in-Mode0
unfolding passes member idle?
returns-in-Mode0 c =
    rw c.in-Mode0.is (in_any _ _ _ refl (c.two_screens.ensures c.args.limits))

pub returns-in-Mode1 : goal.returns-in-Mode1
unfolding passes member idle?
returns-in-Mode1 c =
    rw (c.in-Mode1.is, c.in_range-in-Mode1.ensures, c.within-in-Mode1.ensures) (in_any _ _ _ refl (behind_free 1 _ _ (last 2 _)))

pub returns-in-Mode2 : goal.returns-in-Mode2
unfolding passes member idle?
returns-in-Mode2 c =
    rw (c.in-Mode2.is, c.both.ensures, c.within-in-Mode2-2.ensures, c.within-in-Mode2.ensures) (in_any _ _ _ refl (behind_free 1 _ _ (two 2 _ _)))

pub returns-in-Select : goal.returns-in-Select
unfolding passes member idle?
returns-in-Select c =
    rw (c.in-Select.is, c.in_range-in-Select.ensures, c.within-in-Select.ensures) (but_there _ _ _ refl refl)

pub returns-in-Cover : goal.returns-in-Cover
unfolding passes member idle?
returns-in-Cover c =
    rw (c.in-Cover.is, c.both-in-Cover.ensures, c.within-in-Cover-2.ensures, c.within-in-Cover.ensures) (in_any _ _ _ refl (two 1 _ _))

pub returns-in-Display : goal.returns-in-Display
unfolding passes member idle?
returns-in-Display c =
    rw (c.in-Display.is, c.in_range-in-Display.ensures, c.within-in-Display.ensures) (but_there _ _ _ refl refl)

pub returns-in-CursorKind : goal.returns-in-CursorKind
unfolding passes member idle?
returns-in-CursorKind c =
    rw (c.in-CursorKind.is, c.in_range-in-CursorKind.ensures, c.within-in-CursorKind.ensures) (but_there _ _ _ refl refl)

pub returns-in-Pattern : goal.returns-in-Pattern
unfolding passes member idle?
returns-in-Pattern c =
    rw (c.in-Pattern.is, c.in_range-in-Pattern.ensures, c.within-in-Pattern.ensures) (in_any _ _ _ refl (last 1 _))

pub returns-in-Repeat : goal.returns-in-Repeat
unfolding passes member idle?
returns-in-Repeat c =
    rw (c.in-Repeat.is, c.in_range-in-Repeat.ensures, c.within-in-Repeat.ensures) (in_any _ _ _ refl (last 1 _))

pub returns-in-RepeatDelay : goal.returns-in-RepeatDelay
unfolding passes member idle?
returns-in-RepeatDelay c =
    rw (c.in-RepeatDelay.is, c.in_range-in-RepeatDelay.ensures, c.within-in-RepeatDelay.ensures) (in_any _ _ _ refl (last 1 _))

pub returns-in-RepeatInterval : goal.returns-in-RepeatInterval
unfolding passes member idle?
returns-in-RepeatInterval c =
    rw (c.in-RepeatInterval.is, c.in_range-in-RepeatInterval.ensures, c.within-in-RepeatInterval.ensures) (in_any _ _ _ refl (last 1 _))

pub returns-in-Shift : goal.returns-in-Shift
unfolding passes member idle?
returns-in-Shift c =
    rw (c.in-Shift.is, c.in_range-in-Shift.ensures, c.shift.ensures) (in_any _ _ _ refl (last 1 _))

pub returns-in_default : goal.returns-in_default
unfolding passes member idle?
returns-in_default c =
    let a = c.args in none_bad a.q a.limits (opened c.in_default.in_default-own.keys21)
