-- The bytes in front of zeros.
use Rattle.unfinished.proofs.JoinLaws.{pads}
use Rattle.unfinished.proofs.padded.Goals as goal

pub returns : goal.returns
returns c =
    pads c.args.rest.now c.requires c.copy_from_slice.ensures.after
