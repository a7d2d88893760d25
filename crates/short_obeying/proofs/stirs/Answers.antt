-- `stirs` meets its contract: code 12, code 10 on the last line, and the sequences of the list; a refusal is none.
use mathlib.Core.Path.{refl}
use Rattle.calls.specs.Repaint.{calm?, lifts?}
use Rattle.model.proofs.Tests.{differ}
use Rattle.short_obeying.proofs.Stirring.{control_stirs, sequence_stirs}
use Rattle.short_obeying.proofs.stirs.Goals as goal

pub returns-in-Control : goal.returns-in-Control
returns-in-Control c = rw c.in-Control.is (control_stirs c.in-Control.c c.lowest.ensures)

pub returns-in-Sequence : goal.returns-in-Sequence
returns-in-Sequence c =
    rw c.in-Sequence.is (sequence_stirs c.in-Sequence.q (rw c.in-Sequence.is at c.requires) c.changes.ensures)

pub returns-in-Printed : goal.returns-in-Printed
returns-in-Printed c =
    absurd (differ (rw c.in-Printed.is at c.requires))

pub returns-in-Refused : goal.returns-in-Refused
unfolding calm? lifts?
returns-in-Refused c =
    rw c.in-Refused.is (λ st e h. refl)
