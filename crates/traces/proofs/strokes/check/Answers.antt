-- `check`: by the five tests, in their order.
use mathlib.Core.Path.{◌∙◌, ap, refl, sym}
use borrow.Author.Tests.{le-leb, lt-leb}
use Rattle.calls.specs.Calls.{first_of}
use Rattle.traces.specs.Strokes.{rising?}
use Rattle.traces.proofs.Promises.{checked}
use Rattle.traces.proofs.strokes.check.Goals as goal

pub returns-then-not-sound : goal.returns-then-not-sound
unfolding first_of
returns-then-not-sound c =
    let a = c.args in
    sym (ap first_of (checked a.settings a.trace.now (sym c.sound.ensures ∙ c.if-not-sound.true) refl refl refl refl))

pub returns-then-trace-gt60000 : goal.returns-then-trace-gt60000
unfolding first_of
returns-then-trace-gt60000 c =
    let a = c.args in
    sym (ap first_of (checked a.settings a.trace.now (sym c.sound.ensures ∙ c.if-not-sound.false)
    (lt-leb _ 60000 c.if-trace-gt60000.true) refl refl refl))

pub returns-then-not-uncut : goal.returns-then-not-uncut
unfolding first_of
returns-then-not-uncut c =
    let a = c.args in
    sym (ap first_of (checked a.settings a.trace.now (sym c.sound.ensures ∙ c.if-not-sound.false)
    (le-leb _ 60000 c.if-trace-gt60000.false) (sym c.uncut.ensures ∙ c.if-not-uncut.true) refl refl))

pub returns-in_default : goal.returns-in_default
unfolding first_of
returns-in_default c =
    let a = c.args in
    sym (ap first_of (checked a.settings a.trace.now (sym c.sound.ensures ∙ c.if-not-sound.false)
    (le-leb _ 60000 c.if-trace-gt60000.false) (sym c.uncut.ensures ∙ c.if-not-uncut.false)
    c.in_default.ensures refl))

pub returns-then-not-rising : goal.returns-then-not-rising
unfolding first_of
returns-then-not-rising c =
    let a = c.args in
    let s = c.in-Some.ensures in
    sym (ap first_of (checked a.settings a.trace.now (sym c.sound.ensures ∙ c.if-not-sound.false)
    (le-leb _ 60000 c.if-trace-gt60000.false) (sym c.uncut.ensures ∙ c.if-not-uncut.false)
    s.0
    (ap (rising? 0) s.1.is ∙ sym c.rising.ensures ∙ c.if-not-rising.true)))

pub returns : goal.returns
unfolding first_of
returns c =
    let a = c.args in
    let s = c.in-Some.ensures in (
      ap first_of (checked a.settings a.trace.now (sym c.sound.ensures ∙ c.if-not-sound.false)
          (le-leb _ 60000 c.if-trace-gt60000.false) (sym c.uncut.ensures ∙ c.if-not-uncut.false)
          s.0
          (ap (rising? 0) s.1.is ∙ sym c.rising.ensures ∙ c.if-not-rising.false)),
      s.1,
    )
