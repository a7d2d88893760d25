-- Refused: nothing altered. A message within the line is one run, printed at once; any other goes through the loop.
use mathlib.Core.Path.{◌∙◌, ap, sym}
use native.Mathlib.Omega.{arith}
use lib.ListN.{length}
use Rattle.model.proofs.RefusalLaws.{not_0}
use Rattle.model.proofs.Keep.{chosen}
use Rattle.counting.specs.Counting.{answer_at}
use Rattle.terminal.proofs.Answers.{servable}
use Rattle.short_serving.proofs.Ends.{visible}
use Rattle.short.proofs.Promises.{line_first, line_served, line_visible, short_refused, short_served}
use Rattle.std.proofs.lemmas.Option.{MatchOption-at_some}
use Rattle.short.proofs.message_short.Goals as goal

pub returns-in-Err : goal.returns-in-Err
returns-in-Err c =
    let a = c.args in
    short_refused a.settings a.message.now a.cells.now a.layer.now a.dots.now a.shown.now a.printer.now _ _ c.in-Err.ensures (not_0 _) c.refused-answer.ensures

pub selected_place-place-requires : goal.selected_place-place-requires
selected_place-place-requires c =
    let a = c.args in
    let able = servable a.settings a.message.now a.cells.now a.layer.now a.dots.now a.shown.now (sym c.in_default.ensures) in
    chosen _ able.good.sound

pub frame_of-frame-requires : goal.frame_of-frame-requires
frame_of-frame-requires c =
    let a = c.args in
    let able = servable a.settings a.message.now a.cells.now a.layer.now a.dots.now a.shown.now (sym c.in_default.ensures) in
    able.good.sound

pub in_line-requires : goal.in_line-requires
in_line-requires c =
    let a = c.args in
    let able = servable a.settings a.message.now a.cells.now a.layer.now a.dots.now a.shown.now (sym c.in_default.ensures) in
    (line_first a.settings a.message.now a.cells.now a.layer.now a.dots.now a.shown.now a.printer.now able c.frame_of-frame.ensures c.selected_place-place.ensures).loop.ready.stands

pub serve-requires : goal.serve-requires
serve-requires c =
    let a = c.args in
    servable a.settings a.message.now a.cells.now a.layer.now a.dots.now a.shown.now (sym c.in_default.ensures)

pub returns-then-not-in_line : goal.returns-then-not-in_line
returns-then-not-in_line c =
    let a = c.args in
    short_served a.settings a.message.now a.cells.now a.layer.now a.dots.now a.shown.now a.printer.now c.serve.result _ _ _ _ _ (sym c.in_default.ensures) c.serve.ensures

-- within the line
pub print_line-next-requires : goal.print_line-next-requires
print_line-next-requires c =
    let a = c.args in
    let able = servable a.settings a.message.now a.cells.now a.layer.now a.dots.now a.shown.now (sym c.in_default.ensures) in
    let l = c.in_line.ensures c.if-not-in_line.false in
    record { ready = (line_first a.settings a.message.now a.cells.now a.layer.now a.dots.now a.shown.now a.printer.now able c.frame_of-frame.ensures c.selected_place-place.ensures).loop.ready; reads = l.seen; le_count = (l.some, (l.room, omega arith)); shown_len = able.shown_are }

-- the shown screen has its size still
pub unwrap-requires-3 : goal.unwrap-requires-3
unwrap-requires-3 c =
    let a = c.args in
    let able = servable a.settings a.message.now a.cells.now a.layer.now a.dots.now a.shown.now (sym c.in_default.ensures) in
    let seen = line_visible a.settings a.message.now a.cells.now a.layer.now a.dots.now a.shown.now a.printer.now able c.frame_of-frame.ensures c.selected_place-place.ensures (c.in_line.ensures c.if-not-in_line.false) c.print_line-next.ensures in
    c.as_mut_array.follows.1.1 seen.1

pub paint_row_8-requires : goal.paint_row_8-requires
paint_row_8-requires c =
    let a = c.args in
    let able = servable a.settings a.message.now a.cells.now a.layer.now a.dots.now a.shown.now (sym c.in_default.ensures) in
    let seen = line_visible a.settings a.message.now a.cells.now a.layer.now a.dots.now a.shown.now a.printer.now able c.frame_of-frame.ensures c.selected_place-place.ensures (c.in_line.ensures c.if-not-in_line.false) c.print_line-next.ensures in
    record { visible = visible a.settings c.print_line-next.result seen.0.sound c.placed-places.ensures }

pub answer_of-answer-requires : goal.answer_of-answer-requires
answer_of-answer-requires c =
    let a = c.args in
    let able = servable a.settings a.message.now a.cells.now a.layer.now a.dots.now a.shown.now (sym c.in_default.ensures) in
    omega (arith, able.sendable)

pub returns : goal.returns
returns c =
    let a = c.args in
    let able = servable a.settings a.message.now a.cells.now a.layer.now a.dots.now a.shown.now (sym c.in_default.ensures) in
    short_served a.settings a.message.now a.cells.now a.layer.now a.dots.now a.shown.now a.printer.now _ _ _ _ _ _ (sym c.in_default.ensures)
    (line_served a.settings a.message.now a.cells.now a.layer.now a.dots.now a.shown.now a.printer.now able c.frame_of-frame.ensures c.selected_place-place.ensures (c.in_line.ensures c.if-not-in_line.false) c.print_line-next.ensures c.placed-places.ensures
    (c.answer_of-answer.ensures ∙ ap (answer_at (length a.message.now)) c.no_counts.ensures)
    (λ dots.
    let cells = MatchOption-at_some _ _ _ c.unwrap.ensures c.as_array.ensures.cases in
    let layer = MatchOption-at_some _ _ _ c.unwrap-2.ensures c.as_array-2.ensures.cases in
    let shown = MatchOption-at_some _ _ _ c.unwrap-3.ensures c.as_mut_array.follows.0 in
    rw (← cells.same, ← layer.same, ← shown.same) (c.paint_row_8.ensures dots)))
