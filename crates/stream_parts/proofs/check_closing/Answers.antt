-- By the two tests, in their order.
use mathlib.Core.Path.{◌∙◌, refl, sym}
use mathlib.Core.Bool.{false, true}
use Rattle.std.proofs.lemmas.Result.{err_from_is_err_and}
use Rattle.calls.specs.Calls.{sized, terminal}
use Rattle.numbers.proofs.StoreTests.{sized_all, sized_not}
use Rattle.stream_parts.proofs.Refusals.{closing_numbered}
use Rattle.stream_parts.proofs.check_closing.Goals as goal

pub returns-in_err-check_stores : goal.returns-in_err-check_stores
unfolding sized
returns-in_err-check_stores c =
    let a = c.args in
    let p = err_from_is_err_and c.from_residual.result c.from_residual.ensures.1 in
    let q = sized_not _ _ c.in_err-check_stores.ensures in
    rw (p.1, p.2) (q.1 ∙ sym (closing_numbered (terminal a.settings a.cells.now a.layer.now a.dots.now a.shown.now) false _ q.0 refl))

pub returns-then-sound : goal.returns-then-sound
unfolding sized
returns-then-sound c =
    let a = c.args in
    sym (closing_numbered (terminal a.settings a.cells.now a.layer.now a.dots.now a.shown.now) true true (sized_all _ c.in_ok-check_stores.ensures) (sym c.sound.ensures ∙ c.if-sound.true))

pub returns-else-sound : goal.returns-else-sound
unfolding sized
returns-else-sound c =
    let a = c.args in
    sym (closing_numbered (terminal a.settings a.cells.now a.layer.now a.dots.now a.shown.now) true false (sized_all _ c.in_ok-check_stores.ensures) (sym c.sound.ensures ∙ c.if-sound.false))
