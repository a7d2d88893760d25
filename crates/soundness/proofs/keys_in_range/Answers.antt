-- The comparisons are those of the ranges; the arrays are as long as their types say.
use Rattle.unfinished.proofs.Arrays.{unmapped}
use Rattle.soundness.proofs.Chains.{stored}
use Rattle.soundness.proofs.keys_in_range.Goals as goal

pub returns : goal.returns
returns c =
    (stored c.args.kind c.args.keys _ _ c.charset-known.ensures c.shift-shifted.ensures, (search (unmapped, c.well_formed), search (unmapped, c.well_formed)))
