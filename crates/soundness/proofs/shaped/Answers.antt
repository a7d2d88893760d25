-- The table of modes, of the settings' numbers.
use Rattle.soundness.proofs.shaped.Goals as goal

pub returns : goal.returns
returns c =
    c.shape.ensures
