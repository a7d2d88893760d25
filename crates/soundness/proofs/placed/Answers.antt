-- The tests are those of the lists of ranges; H less one is what the code has.
use mathlib.Core.Path.{◌∙◌, refl}
use native.Mathlib.Omega.{arith}
use mathlib.Core.Bool.{◌&&◌}
use Rattle.model.proofs.Keep.{height_low}
use Rattle.soundness.proofs.Chains.{first_of_lem, step_of, tall}
use Rattle.soundness.proofs.placed.Goals as goal

pub overflow_sub-less : goal.overflow_sub-less
overflow_sub-less c =
    let s = c.args.settings.now in omega (arith, height_low s, c.height_of-height.ensures s refl refl)

pub returns : goal.returns
returns c =
    let s = c.args.settings.now in
    let n = c.height_of-height.result in
    let e = c.height_of-height.ensures s refl refl in
    λ i. (c.chosen-other.ensures ∙ step_of s n e (c.screens_of-screens.ensures s refl)) i && ((c.inside-one.ensures ∙ first_of_lem s n e) i && c.second-two.ensures (tall s n e) i)
