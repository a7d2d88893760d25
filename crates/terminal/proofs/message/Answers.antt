-- Nothing refuses it: served and painted. Refused: nothing altered.
use mathlib.Core.Path.{sym}
use Rattle.model.proofs.RefusalLaws.{not_0}
use Rattle.terminal.proofs.Answers.{refused, servable, served}
use Rattle.terminal.proofs.message.Goals as goal

pub serve-requires : goal.serve-requires
serve-requires c =
    let a = c.args in
    servable a.settings a.message.now a.cells.now a.layer.now a.dots.now a.shown.now (sym c.in-Ok.ensures)

pub returns-in-Ok : goal.returns-in-Ok
returns-in-Ok c =
    let a = c.args in
    served a.settings a.message.now a.cells.now a.layer.now a.dots.now a.shown.now a.printer.now c.serve.result _ _ _ _ _ (sym c.in-Ok.ensures) c.serve.ensures

pub returns-in-Err : goal.returns-in-Err
returns-in-Err c =
    let a = c.args in
    refused a.settings a.message.now a.cells.now a.layer.now a.dots.now a.shown.now a.printer.now _ _ c.in-Err.ensures (not_0 _) c.refused-answer.ensures
