-- The array's first bytes are those that waited and the piece's first 52: their whole items are one message, those of the rest of the piece another.
use mathlib.Core.Path.{◌≡◌, sym}
use Prim.Native.Nat.{◌+◌, ◌-◌, ◌≤◌}
use native.Mathlib.Omega.{arith}
use lib.ListN.{length}
use lib.Seq.{length-take-le}
use Rattle.calls.specs.Calls.{terminal}
use Rattle.unfinished.proofs.Arrays.{unmapped}
use Rattle.stream_parts.proofs.Ends.{Ended, Rest, array_long, ended, rest_ended}
use Rattle.stream_parts.proofs.Piecing.{addable, behind_few, both_near, both_served, first_fits, first_refused}
use Rattle.stream_parts.proofs.Quiet.{by_quiet}
use Rattle.stream_parts.proofs.Refusals.{Told, told, told_few, told_line}
use Rattle.stream_divided.proofs.divided.Goals.{After-message-one, After-whole_end, After-whole_end-end, Start}
use Rattle.stream_divided.proofs.divided.Goals as goal

-- what is known from the start: the array of twelve, and a line of number 0
size : (c : Start) → length c.args.settings.waiting ≡ 12
size c = let g = c.well_formed.0.1.1.1.1.1.1.1.1.1 in search (unmapped, g.1.1.1.1.1.1.1.1.1)

allowed : (c : Start) → Told (terminal c.args.settings c.args.cells.now c.args.layer.now c.args.dots.now c.args.shown.now) c.args.piece.now
allowed c = told _ _ c.requires.0

pub join-bytes-requires : goal.join-bytes-requires
join-bytes-requires c = let start = (goal.at.join-bytes-requires c).Start in ((told_line (allowed start)).fits, (omega arith, omega (arith, c.requires.1)))

-- once the bytes are joined
pub slice_bounds-bytes-end : goal.slice_bounds-bytes-end
slice_bounds-bytes-end c =
    let start = (goal.at.slice_bounds-bytes-end c).Start in
    let a = c.args in
    array_long a.settings a.piece.now a.cells.now a.layer.now a.dots.now a.shown.now (size start) (allowed start) 52 (omega (arith, c.requires.1)) c.join-bytes.result c.join-bytes.ensures

pub slice_bounds-whole_end-end : goal.slice_bounds-whole_end-end
slice_bounds-whole_end-end c =
    let start = (goal.at.slice_bounds-whole_end-end c).Start in
    let a = c.args in
    sym
    (length-take-le _ _
    (array_long a.settings a.piece.now a.cells.now a.layer.now a.dots.now a.shown.now (size start) (allowed start) 52 (omega (arith, c.requires.1)) c.join-bytes.result c.join-bytes.ensures))

-- their whole items found
known : (c : After-whole_end-end) → let a = c.args in Ended a.settings a.piece.now c.join-bytes.result 52 (a.settings.held + 52) c.whole_end-end.result
known c =
    let a = c.args in
    let g = c.well_formed.0.1.1.1.1.1.1.1.1.1 in
    let s : length a.settings.waiting ≡ 12 = search (unmapped, g.1.1.1.1.1.1.1.1.1) in
    ended a.settings a.piece.now a.cells.now a.layer.now a.dots.now a.shown.now s (told _ _ c.requires.0) 52 (omega (arith, c.requires.1)) c.join-bytes.result c.join-bytes.ensures
    c.whole_end-end.result c.whole_end-end.ensures

-- and those of the rest
after : (c : After-whole_end) → let a = c.args in
    (x : Ended a.settings a.piece.now c.join-bytes.result 52 (a.settings.held + 52) c.whole_end-end.result)
    → Rest a.piece.now (c.whole_end-end.result - a.settings.held) ((c.whole_end-end.result - a.settings.held) + c.whole_end.result)
after c x = let a = c.args in rest_ended a.piece.now (c.whole_end-end.result - a.settings.held) c.whole_end.result (omega (arith, x.low, c.requires.1)) c.whole_end.ensures

pub slice_bounds-bytes-end-2 : goal.slice_bounds-bytes-end-2
slice_bounds-bytes-end-2 c =
    omega (arith, known (goal.at.slice_bounds-bytes-end-2 c).After-whole_end-end)

pub slice_bounds-message-end : goal.slice_bounds-message-end
slice_bounds-message-end c =
    sym (length-take-le _ _ (omega (arith, known (goal.at.slice_bounds-message-end c).After-whole_end-end)))

pub returns-then-one-ne0 : goal.returns-then-one-ne0
returns-then-one-ne0 c =
    let start = (goal.at.returns-then-one-ne0 c).Start in
    let a = c.args in
    first_refused a.settings a.piece.now a.cells.now a.layer.now a.dots.now a.shown.now a.printer.now (size start) (allowed start) _ _ _ _ (known (goal.at.returns-then-one-ne0 c).After-whole_end-end) (omega (arith, told_line (allowed start)))
    _ _ _ _ _ _ _ (by_quiet a.settings c.quieted.ensures c.message-one.ensures) c.if-one-ne0.true

pub overflow_sub-from : goal.overflow_sub-from
overflow_sub-from c =
    omega (arith, (known (goal.at.overflow_sub-from c).After-whole_end-end).high)

pub slice_bounds-whole_end-count : goal.slice_bounds-whole_end-count
slice_bounds-whole_end-count c =
    omega (arith, (known (goal.at.slice_bounds-whole_end-count c).After-whole_end-end).low, c.requires)

pub slice_bounds-whole_end-start : goal.slice_bounds-whole_end-start
slice_bounds-whole_end-start c =
    omega (arith, (known (goal.at.slice_bounds-whole_end-start c).After-whole_end-end).low, c.requires)

pub overflow_add-to : goal.overflow_add-to
overflow_add-to c =
    let start = (goal.at.overflow_add-to c).Start in
    let k = known (goal.at.overflow_add-to c).After-whole_end-end in
    let r = after (goal.at.overflow_add-to c).After-whole_end k in
    omega (arith, r.low, told_few (allowed start))

pub slice_bounds-message-end-2 : goal.slice_bounds-message-end-2
slice_bounds-message-end-2 c =
    let k = known (goal.at.slice_bounds-message-end-2 c).After-whole_end-end in
    let r = after (goal.at.slice_bounds-message-end-2 c).After-whole_end k in
    r.low

fits : (c : After-message-one) → Ended c.args.settings c.args.piece.now c.join-bytes.result 52 (c.args.settings.held + 52) c.whole_end-end.result → length c.args.settings.waiting ≡ 12 → c.message-one.result.answer.printed ≤ length c.message-one.new.printer
fits c x s =
    let a = c.args in
    let h = told _ _ c.requires.0 in
    first_fits a.settings a.piece.now a.cells.now a.layer.now a.dots.now a.shown.now a.printer.now s h _ _ _ _ x (omega (arith, told_line h))
    _ _ _ _ _ _ _ (by_quiet a.settings c.quieted.ensures c.message-one.ensures)

pub slice_bounds-message-count-2 : goal.slice_bounds-message-count-2
slice_bounds-message-count-2 c =
    fits (goal.at.slice_bounds-message-count-2 c).After-message-one (known (goal.at.slice_bounds-message-count-2 c).After-whole_end-end) (size (goal.at.slice_bounds-message-count-2 c).Start)

pub slice_bounds-message-start-2 : goal.slice_bounds-message-start-2
slice_bounds-message-start-2 c =
    fits (goal.at.slice_bounds-message-start-2 c).After-message-one (known (goal.at.slice_bounds-message-start-2 c).After-whole_end-end) (size (goal.at.slice_bounds-message-start-2 c).Start)

pub overflow_cast-end : goal.overflow_cast-end
overflow_cast-end c =
    let k = known (goal.at.overflow_cast-end c).After-whole_end-end in
    omega (arith, k.low, k.line)

pub together-answer-requires : goal.together-answer-requires
together-answer-requires c =
    let start = (goal.at.together-answer-requires c).Start in
    let a = c.args in
    let k = known (goal.at.together-answer-requires c).After-whole_end-end in
    let r = after (goal.at.together-answer-requires c).After-whole_end k in
    addable a.settings a.piece.now a.cells.now a.layer.now a.dots.now a.shown.now a.printer.now (size start) (allowed start) _ _ k c.requires.1 _ r
    _ _ _ _ _ _ _ (by_quiet a.settings c.quieted.ensures c.message-one.ensures) c.if-one-ne0.false _ _ _ _ _ _ _ c.message-two.ensures (omega (arith, c.well_formed.1.1.1.1.1.1))

pub overflow_cast-taken : goal.overflow_cast-taken
overflow_cast-taken c =
    let start = (goal.at.overflow_cast-taken c).Start in
    omega (arith, told_few (allowed start))

pub overflow_sub-start : goal.overflow_sub-start
overflow_sub-start c =
    (known (goal.at.overflow_sub-start c).After-whole_end-end).line.no_longer

pub slice_bounds-lined-count : goal.slice_bounds-lined-count
slice_bounds-lined-count c =
    let k = known (goal.at.slice_bounds-lined-count c).After-whole_end-end in
    let r = after (goal.at.slice_bounds-lined-count c).After-whole_end k in
    r.low

pub slice_bounds-lined-start : goal.slice_bounds-lined-start
slice_bounds-lined-start c =
    let k = known (goal.at.slice_bounds-lined-start c).After-whole_end-end in
    let r = after (goal.at.slice_bounds-lined-start c).After-whole_end k in
    r.low

pub overflow_add-count : goal.overflow_add-count
overflow_add-count c =
    omega (arith, (known (goal.at.overflow_add-count c).After-whole_end-end).within)

pub lined-requires : goal.lined-requires
lined-requires c =
    let start = (goal.at.lined-requires c).Start in
    let a = c.args in
    let k = known (goal.at.lined-requires c).After-whole_end-end in
    let r = after (goal.at.lined-requires c).After-whole_end k in
    behind_few a.settings a.piece.now a.cells.now a.layer.now a.dots.now a.shown.now a.printer.now (size start) (allowed start) _ _ k c.requires.1 _ r

pub counted_from-requires : goal.counted_from-requires
counted_from-requires c =
    let start = (goal.at.counted_from-requires c).Start in
    let a = c.args in
    let k = known (goal.at.counted_from-requires c).After-whole_end-end in
    let r = after (goal.at.counted_from-requires c).After-whole_end k in
    let o : c.together-answer.result.offset ≤ 4224 =
    both_near a.settings a.piece.now a.cells.now a.layer.now a.dots.now a.shown.now a.printer.now (size start) (allowed start) _ _ k c.requires.1 _ r
    _ _ _ _ _ _ _ (by_quiet a.settings c.quieted.ensures c.message-one.ensures) c.if-one-ne0.false _ _ _ _ _ _ _ c.message-two.ensures _ c.together-answer.ensures in
    omega (arith, k.line, o)

pub returns : goal.returns
returns c =
    let start = (goal.at.returns c).Start in
    let a = c.args in
    let k = known (goal.at.returns c).After-whole_end-end in
    let r = after (goal.at.returns c).After-whole_end k in
    both_served a.settings a.piece.now a.cells.now a.layer.now a.dots.now a.shown.now a.printer.now (size start) (allowed start) _ _ k c.requires.1 _ r
    _ _ _ _ _ _ _ (by_quiet a.settings c.quieted.ensures c.message-one.ensures) c.if-one-ne0.false _ _ _ _ _ _ _ c.message-two.ensures
    _ _ _ c.together-answer.ensures c.counted_from.ensures c.lined.ensures
