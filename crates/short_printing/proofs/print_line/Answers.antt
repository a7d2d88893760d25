-- `print_line`: as many cells from the cursor's on, as many places of the layer and of the shown screen from the one that shows it.
use native.Mathlib.Omega.{arith}
use borrow.Author.Rules.{rules}
use Rattle.ground.proofs.Cells.{cell_room}
use Rattle.runs.proofs.Chunks.{copied_acts}
use Rattle.short_printing.proofs.Seeing.{painted_line}
use Rattle.short_printing.proofs.print_line.Goals as goal

pub copy_in-requires : goal.copy_in-requires
copy_in-requires c =
    (omega (arith, cell_room c.requires.ready.stands), search rules)

pub overflow_cast-count : goal.overflow_cast-count
overflow_cast-count c =
    search (rules, c.requires.le_count, c.well_formed)

pub overflow_add-place : goal.overflow_add-place
overflow_add-place c =
    search (rules, c.requires.le_count, c.well_formed)

pub returns : goal.returns
returns c =
    let a = c.args in
    let h = c.requires in
    let room = h.le_count in (
      copied_acts a.message.now a.at a.count h.ready room.0 room.1.1 room.1.0 h.reads c.cell-from.ensures c.copy_in.ensures c.shown-spot.ensures c.empty_from.ensures c.put_at.ensures,
      painted_line a.message.now a.at a.count h.ready room.0 room.1.1 room.1.0 h.reads c.shown-spot.ensures h.shown_len c.paint_bytes.ensures,
    )
