-- The opening meets its promise: the stores are filled, or left as they came.
use mathlib.Core.Path.{◌∙◌, refl, sym}
use native.Mathlib.Omega.{arith}
use Rattle.model.proofs.RefusalLaws.{not_0}
use Rattle.terminal.proofs.Promises.{byte, filled, kept}
use Rattle.terminal.proofs.opening.Goals as goal

-- a rule that is accepted is a byte
pub overflow_cast-rule : goal.overflow_cast-rule
overflow_cast-rule c =
    let a = c.args in
    omega (arith, byte a.rule a.cells.now a.layer.now a.dots.now a.shown.now (sym c.in_default.ensures))

pub returns-in-Err : goal.returns-in-Err
returns-in-Err c =
    let a = c.args in
    kept a.rule a.cells.now a.layer.now a.dots.now a.shown.now _ _ _ _ _ _ (c.into.ensures ∙ c.in-Err.ensures) (λ k. not_0 _ (sym c.into.ensures ∙ k)) c.opened_settings.ensures refl refl refl refl

pub returns : goal.returns
returns c =
    let a = c.args in
    filled a.rule a.cells.now a.layer.now a.dots.now a.shown.now _ _ _ _ _ _ c.in_default.ensures refl c.opened_settings-2.ensures c.fill.ensures c.fill-2.ensures c.wipe.ensures c.fill-3.ensures
