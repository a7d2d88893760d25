-- `view_of`: the view of each mode.
use mathlib.Core.Path.{refl}
use native.Mathlib.Omega.{arith}
use Rattle.model.proofs.Keep.{both_there, screens_low}
use Rattle.views.proofs.Views.{shows_halves, shows_sides, shows-whole}
use Rattle.views.proofs.view_of.Goals as goal

pub window-requires : goal.window-requires
window-requires c =
    (c.requires.0, (screens_low c.args.settings, (λ i. (c.place_of.ensures i).top)))

pub window-requires-then-mode-eq2 : goal.window-requires-then-mode-eq2
window-requires-then-mode-eq2 c =
    (c.requires.0, (omega (arith, c.if-mode-eq2.true, both_there c.args.settings (λ e. omega (arith, e, c.if-mode-eq2.true))), (λ i. (c.place_of-then-mode-eq2.ensures i).top)))

pub returns-then-mode-eq2 : goal.returns-then-mode-eq2
returns-then-mode-eq2 c =
    let s = c.args.settings in
    shows_sides s c.requires.0 c.if-mode-eq2.true (c.text_rows-rows.ensures.0 s refl) c.window.ensures c.window-then-mode-eq2.ensures

pub window-left-requires : goal.window-left-requires
window-left-requires c =
    (c.requires.0, (c.requires.0.selected, c.requires.1))

pub returns-then-mode-ne1 : goal.returns-then-mode-ne1
returns-then-mode-ne1 c =
    let s = c.args.settings in
    shows-whole s c.requires.0 c.if-mode-ne1.true c.if-mode-eq2.false (c.text_rows-rows.ensures.0 s refl) c.window-left.ensures

pub overflow_mul-at : goal.overflow_mul-at
overflow_mul-at c =
    let s = c.args.settings in
    omega (arith, (shows_halves s c.requires.0 c.if-mode-ne1.false (c.text_rows-rows.ensures.0 s refl) c.window-left.ensures).framed)

pub overflow_add-at : goal.overflow_add-at
overflow_add-at c =
    let s = c.args.settings in
    omega (arith, (shows_halves s c.requires.0 c.if-mode-ne1.false (c.text_rows-rows.ensures.0 s refl) c.window-left.ensures).framed)

pub returns : goal.returns
returns c =
    let s = c.args.settings in
    shows_halves s c.requires.0 c.if-mode-ne1.false (c.text_rows-rows.ensures.0 s refl) c.window-left.ensures
