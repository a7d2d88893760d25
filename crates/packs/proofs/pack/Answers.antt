-- Refused, all is as it came; else its messages are sent.
use mathlib.Core.Path.{sym}
use Rattle.model.proofs.RefusalLaws.{not_0}
use Rattle.calls.specs.Calls.{terminal}
use Rattle.packs.proofs.Numbers.{pack_refused}
use Rattle.packs.proofs.pack.Goals as goal

pub returns-in-Err : goal.returns-in-Err
returns-in-Err c =
    let a = c.args in
    pack_refused (terminal a.settings a.cells.now a.layer.now a.dots.now a.shown.now) a.pack.now a.printer.now _ _ c.in-Err.ensures (not_0 _) c.refused-answer.ensures

pub send_each-requires : goal.send_each-requires
send_each-requires c = sym c.in_default.ensures

pub returns : goal.returns
returns c =
    c.send_each.ensures
