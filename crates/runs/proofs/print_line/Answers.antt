-- `print_line` meets its contract: behind the step that waited as many bytes as the line has room for are laid down, and then comes the rest of
-- the last one's rule.
use mathlib.Core.Path.{refl}
use native.Mathlib.Omega.{arith}
use borrow.Author.Rules.{rules}
use Rattle.ground.proofs.Cells.{cell_room}
use Rattle.runs.proofs.Runs.{line_laid, part_line}
use Rattle.runs.proofs.print_line.Goals as goal

pub overflow_sub-end : goal.overflow_sub-end
overflow_sub-end c =
    search (rules, c.requires.at_lt_end)

pub fitting-count-requires : goal.fitting-count-requires
fitting-count-requires c =
    record { stands = c.late_step-first.ensures.ready.stands; le_count = omega (arith, c.requires.at_lt_end) }

pub cell-from-requires : goal.cell-from-requires
cell-from-requires c =
    c.late_step-first.ensures.ready.stands

pub copy_in-requires : goal.copy_in-requires
copy_in-requires c =
    let n = c.fitting-count.ensures in
    let h = c.late_step-first.ensures.ready in
    (omega (arith, c.cell-from.ensures, n.some, n.room, cell_room h.stands, h.cells_are), omega (arith, n.most, c.requires.at_lt_end))

pub uncover-requires : goal.uncover-requires
uncover-requires c =
    let h = c.late_step-first.ensures.ready in record { stands = h.stands; layer_of = h.layer_are }

pub overflow_sub-count : goal.overflow_sub-count
overflow_sub-count c =
    c.fitting-count.ensures.some

pub overflow_cast-count : goal.overflow_cast-count
overflow_cast-count c =
    omega (arith, c.fitting-count.ensures.room, c.late_step-first.ensures.ready.stands.fits, c.well_formed)

pub further-last-requires : goal.further-last-requires
further-last-requires c =
    omega (arith, c.fitting-count.ensures.some, c.fitting-count.ensures.room, c.late_step-first.ensures.ready.stands.fits, c.well_formed)

pub right-right-requires : goal.right-right-requires
right-right-requires c =
    let a = c.args in
    let w = c.late_step-first.ensures in
    let laid = line_laid w a.message.now a.at a.end c.fitting-count.result c.fitting-count.ensures c.requires.at_lt_end.1 c.cell-from.ensures c.copy_in.ensures c.uncover.ensures c.further-last.ensures in
    record { ready = laid.ready }

pub track-next-requires : goal.track-next-requires
track-next-requires c =
    let h = c.right-right.ensures.ready in record { stands = h.stands; layer_of = h.layer_are }

pub overflow_add-result : goal.overflow_add-result
overflow_add-result c =
    omega (arith, c.requires.at_lt_end, c.well_formed, c.fitting-count.ensures.most)

pub shape_of-cells : goal.shape_of-cells
shape_of-cells c =
    search (rules, c.right-right.ensures.ready.cells_are, c.requires.ready.cells_are)

pub shape_of-layer : goal.shape_of-layer
shape_of-layer c =
    let after = c.track-next.ensures c.args.cells.now c.requires.ready.cells_are in
    search (rules, after.ready.layer_are.size, c.requires.ready.layer_are.size)

pub returns : goal.returns
returns c =
    let a = c.args in
    let w = c.late_step-first.ensures in
    let n = c.fitting-count.result in
    let laid = line_laid w a.message.now a.at a.end n c.fitting-count.ensures c.requires.at_lt_end.1 c.cell-from.ensures c.copy_in.ensures c.uncover.ensures c.further-last.ensures in
    part_line w a.message.now a.at a.end n c.fitting-count.ensures c.requires.at_lt_end.1 refl laid c.right-right.ensures c.track-next.ensures
