-- By the two tests, in their order.
use mathlib.Core.Path.{◌∙◌, refl, sym}
use mathlib.Core.Bool.{false, true}
use Rattle.calls.specs.Calls.{first_of}
use Rattle.numbers.proofs.KeyTests.{keyed_number}
use Rattle.numbers.proofs.check_key.Goals as goal

pub returns-then-not-sound : goal.returns-then-not-sound
unfolding first_of
returns-then-not-sound c =
    let a = c.args in
    sym (keyed_number a.number a.text.now a.settings false _ (sym c.sound.ensures ∙ c.if-not-sound.true) refl)

pub returns-then-not-keyable : goal.returns-then-not-keyable
unfolding first_of
returns-then-not-keyable c =
    let a = c.args in
    sym (keyed_number a.number a.text.now a.settings true false (sym c.sound.ensures ∙ c.if-not-sound.false) (sym c.keyable.ensures ∙ c.if-not-keyable.true))

pub returns : goal.returns
unfolding first_of
returns c =
    let a = c.args in
    sym (keyed_number a.number a.text.now a.settings true true (sym c.sound.ensures ∙ c.if-not-sound.false) (sym c.keyable.ensures ∙ c.if-not-keyable.false))
