-- What refuses it is the piece's own; else it goes where its length tells.
use mathlib.Core.Path.{◌∙◌}
use Rattle.calls.specs.Calls.{piece, terminal}
use Rattle.model.proofs.RefusalLaws.{not_0}
use Rattle.stream_parts.proofs.Pieces.{promised_not}
use Rattle.stream_parts.proofs.Unsound.{line_refused}
use Rattle.stream_piece.proofs.behind.Goals as goal

pub returns-in-Err : goal.returns-in-Err
returns-in-Err c =
    let a = c.args in
    let t = terminal a.settings a.cells.now a.layer.now a.dots.now a.shown.now in
    let e = c.in-Err.ensures in
    promised_not (piece a.piece.now) t a.printer.now _ _ (e ∙ line_refused t a.piece.now (λ k. not_0 _ (e ∙ k))) (not_0 _) c.refused-answer.ensures
