-- By the two tests, the stores' first.
use mathlib.Core.Path.{◌∙◌, refl, sym}
use mathlib.Core.Bool.{false, true}
use Rattle.std.proofs.lemmas.Result.{err_from_is_err_and}
use Rattle.numbers.proofs.OpeningTests.{numbered}
use Rattle.numbers.proofs.StoreTests.{sized_all, sized_not}
use Rattle.numbers.proofs.check_opening.Goals as goal

pub returns-in_err-check_stores : goal.returns-in_err-check_stores
returns-in_err-check_stores c =
    let a = c.args in
    let p = err_from_is_err_and c.from_residual.result c.from_residual.ensures.1 in
    let q = sized_not _ _ c.in_err-check_stores.ensures in
    rw (p.1, p.2) (q.1 ∙ sym (numbered a.rule a.cells.now a.layer.now a.dots.now a.shown.now false _ q.0 refl))

pub returns-then-ruled : goal.returns-then-ruled
returns-then-ruled c =
    let a = c.args in
    sym (numbered a.rule a.cells.now a.layer.now a.dots.now a.shown.now true true (sized_all _ c.in_ok-check_stores.ensures) (sym c.ruled.ensures ∙ c.if-ruled.true))

pub returns-else-ruled : goal.returns-else-ruled
returns-else-ruled c =
    let a = c.args in
    sym (numbered a.rule a.cells.now a.layer.now a.dots.now a.shown.now true false (sized_all _ c.in_ok-check_stores.ensures) (sym c.ruled.ensures ∙ c.if-ruled.false))
