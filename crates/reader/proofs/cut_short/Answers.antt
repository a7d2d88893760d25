-- `reader::cut_short` meets its contract.
use Rattle.reader.proofs.ItemOf.{ended_refused, ended_select}
use Rattle.reader.proofs.cut_short.Goals as goal

pub returns-then-second-eq209 : goal.returns-then-second-eq209
returns-then-second-eq209 c =
    ended_select _ c.if-second-eq209.true

pub returns-else-second-eq209 : goal.returns-else-second-eq209
returns-else-second-eq209 c =
    ended_refused _ c.if-second-eq209.false
