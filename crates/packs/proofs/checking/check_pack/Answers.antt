-- `check_pack`: by the four tests, in their order.
use mathlib.Core.Path.{◌∙◌, refl, sym}
use borrow.Author.Tests.{eq-eqb, ne_eqb}
use Rattle.std.proofs.lemmas.Result.{err_from_is_err_and}
use Rattle.calls.specs.Calls.{none_waits, sized, sound_in, terminal}
use Rattle.numbers.proofs.StoreTests.{sized_all, sized_not}
use Rattle.packs.proofs.Numbers.{bytes_refused, pack_numbered}
use Rattle.packs.proofs.checking.check_pack.Goals as goal

pub returns-in_err-check_stores : goal.returns-in_err-check_stores
unfolding sized
returns-in_err-check_stores c =
    let a = c.args in
    let p = err_from_is_err_and c.from_residual.result c.from_residual.ensures.1 in
    let q = sized_not _ _ c.in_err-check_stores.ensures in
    rw (p.1, p.2) (q.1 ∙ sym (pack_numbered (terminal a.settings a.cells.now a.layer.now a.dots.now a.shown.now) a.pack.now q.0 refl refl refl))

pub returns-in_err-check_bytes : goal.returns-in_err-check_bytes
unfolding sized
returns-in_err-check_bytes c =
    let a = c.args in
    let p = err_from_is_err_and c.from_residual-in_err-check_bytes.result c.from_residual-in_err-check_bytes.ensures.1 in
    rw (p.1, p.2) (bytes_refused (terminal a.settings a.cells.now a.layer.now a.dots.now a.shown.now) a.pack.now _ (sized_all _ c.in_ok-check_stores.ensures) c.in_err-check_bytes.ensures)

pub returns-then-not-sound : goal.returns-then-not-sound
unfolding sized sound_in
returns-then-not-sound c =
    let a = c.args in
    sym (pack_numbered (terminal a.settings a.cells.now a.layer.now a.dots.now a.shown.now) a.pack.now (sized_all _ c.in_ok-check_stores.ensures) (sym c.in_ok-check_bytes.ensures) (sym c.sound.ensures ∙ c.if-not-sound.true) refl)

pub returns-then-settings-ne0 : goal.returns-then-settings-ne0
unfolding sized sound_in none_waits
returns-then-settings-ne0 c =
    let a = c.args in
    sym (pack_numbered (terminal a.settings a.cells.now a.layer.now a.dots.now a.shown.now) a.pack.now (sized_all _ c.in_ok-check_stores.ensures) (sym c.in_ok-check_bytes.ensures) (sym c.sound.ensures ∙ c.if-not-sound.false) (ne_eqb _ _ c.if-settings-ne0.true))

pub returns : goal.returns
unfolding sized sound_in none_waits
returns c =
    let a = c.args in
    sym (pack_numbered (terminal a.settings a.cells.now a.layer.now a.dots.now a.shown.now) a.pack.now (sized_all _ c.in_ok-check_stores.ensures) (sym c.in_ok-check_bytes.ensures) (sym c.sound.ensures ∙ c.if-not-sound.false) (eq-eqb _ _ c.if-settings-ne0.false))
