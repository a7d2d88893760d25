-- By the five tests, in their order.
use mathlib.Core.Path.{◌∙◌, refl, sym}
use mathlib.Core.Bool.{false, true}
use borrow.Author.Tests.{le-leb, lt-leb}
use Rattle.std.proofs.lemmas.Result.{err_from_is_err_and}
use Rattle.calls.specs.Calls.{countable, sized, sound_in, terminal}
use Rattle.numbers.proofs.StoreTests.{sized_all, sized_not}
use Rattle.stream_parts.proofs.Refusals.{line_numbered}
use Rattle.stream_parts.proofs.check_line.Goals as goal

pub returns-in_err-check_stores : goal.returns-in_err-check_stores
unfolding sized
returns-in_err-check_stores c =
    let a = c.args in
    let p = err_from_is_err_and c.from_residual.result c.from_residual.ensures.1 in
    let q = sized_not _ _ c.in_err-check_stores.ensures in
    rw (p.1, p.2) (q.1 ∙ sym (line_numbered (terminal a.settings a.cells.now a.layer.now a.dots.now a.shown.now) a.piece.now false _ _ _ _ q.0 refl refl refl refl))

pub returns-then-piece-gt-MESSAGE : goal.returns-then-piece-gt-MESSAGE
unfolding sized
returns-then-piece-gt-MESSAGE c =
    let a = c.args in
    sym (line_numbered (terminal a.settings a.cells.now a.layer.now a.dots.now a.shown.now) a.piece.now true false _ _ _ (sized_all _ c.in_ok-check_stores.ensures) (lt-leb _ _ c.if-piece-gt-MESSAGE.true) refl refl refl)

pub returns-then-not-sound : goal.returns-then-not-sound
unfolding sized
returns-then-not-sound c =
    let a = c.args in
    sym (line_numbered (terminal a.settings a.cells.now a.layer.now a.dots.now a.shown.now) a.piece.now true true false _ _ (sized_all _ c.in_ok-check_stores.ensures) (le-leb _ _ c.if-piece-gt-MESSAGE.false) (sym c.sound.ensures ∙ c.if-not-sound.true) refl refl)

pub in_count-requires : goal.in_count-requires
in_count-requires c =
    c.if-piece-gt-MESSAGE.false

pub returns-then-in_count : goal.returns-then-in_count
unfolding sized countable
returns-then-in_count c =
    let a = c.args in
    sym (line_numbered (terminal a.settings a.cells.now a.layer.now a.dots.now a.shown.now) a.piece.now true true true true _ (sized_all _ c.in_ok-check_stores.ensures) (le-leb _ _ c.if-piece-gt-MESSAGE.false) (sym c.sound.ensures ∙ c.if-not-sound.false) (sym c.in_count.ensures ∙ c.if-in_count.true) refl)

pub returns-then-sound : goal.returns-then-sound
unfolding sized countable sound_in
returns-then-sound c =
    let a = c.args in
    sym (line_numbered (terminal a.settings a.cells.now a.layer.now a.dots.now a.shown.now) a.piece.now true true true false true (sized_all _ c.in_ok-check_stores.ensures) (le-leb _ _ c.if-piece-gt-MESSAGE.false) (sym c.sound.ensures ∙ c.if-not-sound.false) (sym c.in_count.ensures ∙ c.if-in_count.false) (sym c.sound-2.ensures ∙ c.if-sound.true))

pub returns-else-sound : goal.returns-else-sound
unfolding sized countable sound_in
returns-else-sound c =
    let a = c.args in
    sym (line_numbered (terminal a.settings a.cells.now a.layer.now a.dots.now a.shown.now) a.piece.now true true true false false (sized_all _ c.in_ok-check_stores.ensures) (le-leb _ _ c.if-piece-gt-MESSAGE.false) (sym c.sound.ensures ∙ c.if-not-sound.false) (sym c.in_count.ensures ∙ c.if-in_count.false) (sym c.sound-2.ensures ∙ c.if-sound.false))
