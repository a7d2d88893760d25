-- `place` meets its contract: the crate `cursor`'s function says where the cursor's cell is shown, of any cells and layer.
use mathlib.Core.Path.{◌∙◌, sym}
use mathlib.Core.List.{[]}
use native.Mathlib.Omega.{arith}
use borrow.Author.Tests.{eq-eqb, ne_eqb}
use Rattle.model.specs.State.{state}
use Rattle.model.proofs.SoundLaws.{sound_true}
use Rattle.glass.specs.Cursor.{cursor_at}
use Rattle.glass.proofs.cursor_place.place.Goals as goal

pub returns-then-not-sound : goal.returns-then-not-sound
unfolding cursor_at
returns-then-not-sound c =
    rw (sym c.sound.ensures ∙ c.if-not-sound.true) (omega arith)

pub returns-then-settings-eq0 : goal.returns-then-settings-eq0
unfolding cursor_at
returns-then-settings-eq0 c =
    let good = sym c.sound.ensures ∙ c.if-not-sound.false in
    rw (good, eq-eqb _ _ c.if-settings-eq0.true) (omega arith)

pub frame_of-requires : goal.frame_of-requires
frame_of-requires c =
    sound_true _ (sym c.sound.ensures ∙ c.if-not-sound.false)

pub shown-at-requires : goal.shown-at-requires
unfolding cursor_at
shown-at-requires c =
    rw c.here.ensures c.frame_of.ensures.0.stands

pub returns-then-at-lt-SHOWN : goal.returns-then-at-lt-SHOWN
unfolding cursor_at
returns-then-at-lt-SHOWN c =
    let good = sym c.sound.ensures ∙ c.if-not-sound.false in
    let s = c.args.settings in
    let there = c.shown-at.ensures (state s [] [] []) c.frame_of.ensures.0.framed (sym c.here.ensures) in
    (rw (good, ne_eqb _ _ c.if-settings-eq0.false) (sym there), omega arith)

pub returns-else-at-lt-SHOWN : goal.returns-else-at-lt-SHOWN
unfolding cursor_at
returns-else-at-lt-SHOWN c =
    let good = sym c.sound.ensures ∙ c.if-not-sound.false in
    let s = c.args.settings in
    let there = c.shown-at.ensures (state s [] [] []) c.frame_of.ensures.0.framed (sym c.here.ensures) in
    rw (good, ne_eqb _ _ c.if-settings-eq0.false, there) (omega arith)
