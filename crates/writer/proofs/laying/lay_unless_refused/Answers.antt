-- `writer::laying::lay_unless_refused` meets its contract: a law for each way, in the order of the numbers.
use mathlib.Core.Path.{◌∙◌, sym}
use Rattle.std.proofs.lemmas.Result.{err_from_is_err_and}
use Rattle.writer.proofs.Laws.{laid, refused_read, unsound}
use Rattle.writer.proofs.laying.lay_unless_refused.Goals as goal

pub returns-then-not-sound : goal.returns-then-not-sound
returns-then-not-sound c =
    unsound _ _ _ _ (sym c.sound.ensures ∙ c.if-not-sound.true)

pub returns-in_err-judge : goal.returns-in_err-judge
returns-in_err-judge c =
    let p = err_from_is_err_and c.from_residual.result c.from_residual.ensures.1 in
    rw (p.1, p.2) (refused_read _ _ _ _ (sym c.sound.ensures ∙ c.if-not-sound.false) _ c.in_err-judge.ensures)

pub returns : goal.returns
returns c =
    laid _ _ _ _ (sym c.sound.ensures ∙ c.if-not-sound.false) c.in_ok-judge.ensures _ _ c.lay.ensures
