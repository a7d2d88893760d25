-- By the item's cases.
use Rattle.obeying.proofs.Wiping.{other_spares}
use Rattle.obeying.proofs.clears.Goals as goal

pub returns-in-Control : goal.returns-in-Control
returns-in-Control c =
    rw c.in-Control.is

pub returns-in-Sequence : goal.returns-in-Sequence
returns-in-Sequence c =
    rw c.in-Sequence.is c.is_clear.ensures

pub returns-in_default : goal.returns-in_default
returns-in_default c =
    other_spares c.args.item c.in_default.in_default-own.keys3
