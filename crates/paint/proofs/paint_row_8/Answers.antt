-- `paint_row_8`: blanks in secret mode; else what the last row shows, with the layer over it, is the picture there.
use mathlib.Core.Path.{refl}
use native.Mathlib.Omega.{arith}
use borrow.Author.Tests.{eq-eqb, ne_eqb}
use Rattle.store.proofs.Laws.{lent_filled}
use Rattle.paint.proofs.Pictures.{row_8_plain, row_8_secret}
use Rattle.paint.proofs.paint_row_8.Goals as goal

pub returns-then-hidden-eq1 : goal.returns-then-hidden-eq1
returns-then-hidden-eq1 c dots =
    let a = c.args in
    row_8_secret a.settings a.cells.now a.layer.now dots a.shown.now (eq-eqb _ _ c.if-hidden-eq1.true) (lent_filled 560 80 80 32 a.shown.now c.fill.ensures refl (omega (arith, c.told-shown)))

pub returns : goal.returns
returns c dots =
    let a = c.args in
    row_8_plain a.settings a.cells.now a.layer.now dots a.shown.now (ne_eqb _ _ c.if-hidden-eq1.false) c.told-shown (c.paint_last.ensures a.layer.now dots) c.lay.ensures
