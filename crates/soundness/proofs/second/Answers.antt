-- By the test of the mode.
use mathlib.Core.Path.{◌∙◌}
use Rattle.soundness.proofs.Chains.{second_alone, second_of}
use Rattle.soundness.proofs.second.Goals as goal

pub returns-then-settings-eq3 : goal.returns-then-settings-eq3
returns-then-settings-eq3 c e =
    c.alone.ensures ∙ second_alone c.args.settings.now c.if-settings-eq3.true

pub returns : goal.returns
returns c e =
    c.inside.ensures ∙ second_of c.args.settings.now _ e c.if-settings-eq3.false
