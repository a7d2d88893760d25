-- The part is what the printer call promises.
use mathlib.Core.Path.{ap}
use lib.ListN.{length}
use Rattle.export_message.proofs.px8_printed_l2.Goals as goal

pub returns : goal.returns
returns c =
    ap length c.printed-part.ensures.part_is
