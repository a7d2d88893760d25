-- The whole test by its parts, for arrays that are as long as their types say.
use mathlib.Core.Bool.{◌&&◌}
use Rattle.soundness.proofs.Chains.{sound_of}
use Rattle.soundness.proofs.sound.Goals as goal

pub returns : goal.returns
returns c =
    let s = c.args.settings in
    sound_of s _ _ _ c.stored-stored.ensures.1 c.shaped-shaped.ensures (λ i. c.placed-placed.ensures i && c.stored-stored.ensures.0 i && c.marked-marked.ensures i) c.sound-lined.ensures
