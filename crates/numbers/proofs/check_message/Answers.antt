-- By the tests, in their order; 3 has three ways: the shape; the places, what is stored and the marks; the line.
use mathlib.Core.Path.{◌∙◌, refl, sym}
use mathlib.Core.Bool.{◌&&◌, false, true}
use borrow.Author.Tests.{le-leb, lt-leb}
use Rattle.std.proofs.lemmas.Result.{err_from_is_err_and}
use Rattle.calls.specs.Calls.{sized, terminal}
use Rattle.soundness.proofs.Chains.{sound_line, sound_places, sound_shape}
use Rattle.numbers.proofs.MessageTests.{none_wait, not_sound, numbered, some_wait}
use Rattle.numbers.proofs.StoreTests.{sized_all, sized_not}
use Rattle.numbers.proofs.check_message.Goals as goal

pub returns-in_err-check_stores : goal.returns-in_err-check_stores
unfolding sized
returns-in_err-check_stores c =
    let a = c.args in
    let p = err_from_is_err_and c.from_residual.result c.from_residual.ensures.1 in
    let q = sized_not _ _ c.in_err-check_stores.ensures in
    rw (p.1, p.2) (q.1 ∙ sym (numbered (terminal a.settings.now a.cells.now a.layer.now a.dots.now a.shown.now) a.message.now false _ _ _ q.0 refl refl refl))

pub returns-then-message-gt-MESSAGE : goal.returns-then-message-gt-MESSAGE
unfolding sized
returns-then-message-gt-MESSAGE c =
    let a = c.args in
    sym (numbered (terminal a.settings.now a.cells.now a.layer.now a.dots.now a.shown.now) a.message.now true false _ _ (sized_all _ c.in_ok-check_stores.ensures) (lt-leb _ _ c.if-message-gt-MESSAGE.true) refl refl)

pub returns-then-not-shaped : goal.returns-then-not-shaped
unfolding sized
returns-then-not-shaped c =
    let a = c.args in
    not_sound a.settings.now a.message.now a.cells.now a.layer.now a.dots.now a.shown.now (sized_all _ c.in_ok-check_stores.ensures) (le-leb _ _ c.if-message-gt-MESSAGE.false) (sound_shape a.settings.now (sym c.shaped.ensures ∙ c.if-not-shaped.true))

pub returns-then-not-placed-stored : goal.returns-then-not-placed-stored
unfolding sized
returns-then-not-placed-stored c =
    let a = c.args in
    not_sound a.settings.now a.message.now a.cells.now a.layer.now a.dots.now a.shown.now (sized_all _ c.in_ok-check_stores.ensures) (le-leb _ _ c.if-message-gt-MESSAGE.false) (sound_places a.settings.now c.stored-stored.ensures.1 ((λ i. sym c.placed-placed.ensures i && sym c.stored-stored.ensures.0 i && sym c.marked-marked.ensures i) ∙ c.if-not-placed-stored.true))

pub returns-then-quiet : goal.returns-then-quiet
unfolding sized
returns-then-quiet c =
    let a = c.args in
    let decides = sound_line a.settings.now c.stored-stored.ensures.1 (sym c.shaped.ensures ∙ c.if-not-shaped.false) ((λ i. sym c.placed-placed.ensures i && sym c.stored-stored.ensures.0 i && sym c.marked-marked.ensures i) ∙ c.if-not-placed-stored.false) in
    none_wait a.settings.now a.message.now a.cells.now a.layer.now a.dots.now a.shown.now (sized_all _ c.in_ok-check_stores.ensures) (le-leb _ _ c.if-message-gt-MESSAGE.false) decides (sym c.quiet.ensures ∙ c.if-quiet.true)

pub returns-then-sound : goal.returns-then-sound
unfolding sized
returns-then-sound c =
    let a = c.args in
    let decides = sound_line a.settings.now c.stored-stored.ensures.1 (sym c.shaped.ensures ∙ c.if-not-shaped.false) ((λ i. sym c.placed-placed.ensures i && sym c.stored-stored.ensures.0 i && sym c.marked-marked.ensures i) ∙ c.if-not-placed-stored.false) in
    some_wait a.settings.now a.message.now a.cells.now a.layer.now a.dots.now a.shown.now (sized_all _ c.in_ok-check_stores.ensures) (le-leb _ _ c.if-message-gt-MESSAGE.false) decides (sym c.quiet.ensures ∙ c.if-quiet.false) (sym c.sound.ensures ∙ c.if-sound.true)

pub returns-else-sound : goal.returns-else-sound
unfolding sized
returns-else-sound c =
    let a = c.args in
    let decides = sound_line a.settings.now c.stored-stored.ensures.1 (sym c.shaped.ensures ∙ c.if-not-shaped.false) ((λ i. sym c.placed-placed.ensures i && sym c.stored-stored.ensures.0 i && sym c.marked-marked.ensures i) ∙ c.if-not-placed-stored.false) in
    not_sound a.settings.now a.message.now a.cells.now a.layer.now a.dots.now a.shown.now (sized_all _ c.in_ok-check_stores.ensures) (le-leb _ _ c.if-message-gt-MESSAGE.false) (decides ∙ sym c.sound.ensures ∙ c.if-sound.false)
