-- `bare_after` meets its contract by the item's cases.
use Rattle.obeying.proofs.Layers.{bare_other}
use Rattle.obeying.proofs.bare_after.Goals as goal

pub returns-in-Control : goal.returns-in-Control
returns-in-Control c =
    rw c.in-Control.is

pub returns-in-Sequence : goal.returns-in-Sequence
returns-in-Sequence c =
    rw c.in-Sequence.is c.bare_then.ensures

pub returns-in_default : goal.returns-in_default
returns-in_default c =
    bare_other c.args.mode c.args.item c.args.bare c.in_default.in_default-own.keys3
