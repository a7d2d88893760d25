-- `print_chunk` meets its contract: as many cells from the cursor's on, as many places from the one that shows it.
use native.Mathlib.Omega.{arith}
use borrow.Author.Rules.{rules}
use Rattle.ground.proofs.Cells.{cell_room}
use Rattle.runs.proofs.Chunks.{copied_acts}
use Rattle.runs.proofs.print_chunk.Goals as goal

pub copy_in-requires : goal.copy_in-requires
copy_in-requires c =
    (omega (arith, cell_room c.requires.ready.stands), search rules)

pub returns : goal.returns
returns c =
    let a = c.args in
    let h = c.requires in
    let u = c.uncover.ensures in
    copied_acts a.message.now a.at a.count h.ready h.le_count.0 h.le_count.1.1 h.le_count.1.0 h.reads c.cell-from.ensures c.copy_in.ensures u.shows u.is c.put_at.ensures
