-- By the item's cases.
use Rattle.obeying.proofs.stays.Goals as goal

pub returns-in-Sequence : goal.returns-in-Sequence
returns-in-Sequence c =
    rw c.in-Sequence.is c.on_screen.ensures
