-- By the item's cases: what the function that each arm calls does is what the item's rule says; a refusal leaves all as it is.
use mathlib.Core.Path.{refl, sym}
use Rattle.model.specs.Rules.{apply_item}
use Rattle.model.proofs.Tests.{differ}
use native.Mathlib.Omega.{arith}
use Rattle.obeying.proofs.obey_item.Goals as goal

pub overflow_add-next : goal.overflow_add-next
overflow_add-next c =
    omega (arith, c.requires.offered.inside, c.requires.offered.sendable)

pub print_run-requires : goal.print_run-requires
print_run-requires c =
    record { ready = c.requires.ready; at_value = c.requires.offered.prints (rw c.in-Printed.is) }

pub obey_sequence-requires : goal.obey_sequence-requires
obey_sequence-requires c =
    record { ready = c.requires.ready; frame_value = rw c.in-Sequence.is at c.requires.offered.legal }

pub returns-in-Printed : goal.returns-in-Printed
returns-in-Printed c =
    rw c.in-Printed.is (record { run = λ e. c.print_run.ensures; next = λ e. absurd (differ e); acts = λ e. absurd (differ e); rests = λ e. absurd (differ e) })

pub returns-in-Control : goal.returns-in-Control
unfolding apply_item
returns-in-Control c =
    rw c.in-Control.is (record { run = λ e. absurd (differ (sym e)); next = λ e. refl; acts = λ e h n. c.control.ensures; rests = λ e. absurd (differ e) })

pub returns-in-Sequence : goal.returns-in-Sequence
returns-in-Sequence c =
    rw c.in-Sequence.is (record { run = λ e. absurd (differ (sym e)); next = λ e. refl; acts = λ e. c.obey_sequence.ensures.on; rests = λ e. let o = c.obey_sequence.ensures.off e in (o.0, (o.1, (o.2, o.3))) })

pub returns-in-Refused : goal.returns-in-Refused
returns-in-Refused c =
    rw c.in-Refused.is (record { run = λ e. absurd (differ (sym e)); next = λ e. refl; acts = λ e h. absurd (differ (sym h)); rests = λ e. (refl, (refl, (refl, refl))) })
