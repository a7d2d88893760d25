-- The array's first bytes are those that waited and the piece; the whole items of them are one message, and what is behind them waits.
use mathlib.Core.Path.{◌≡◌, sym}
use Prim.Native.Nat.{◌+◌, ◌≤◌}
use native.Mathlib.Omega.{arith}
use lib.ListN.{length}
use lib.Seq.{length-take-le}
use Rattle.calls.specs.Calls.{terminal}
use Rattle.unfinished.proofs.Arrays.{unmapped}
use Rattle.stream_parts.proofs.Ends.{Ended, array_long, ended}
use Rattle.stream_parts.proofs.Piecing.{first_near, first_refused, one_served, rest_few}
use Rattle.stream_parts.proofs.Quiet.{by_quiet}
use Rattle.stream_parts.proofs.Refusals.{Told, told, told_line}
use Rattle.stream_joined.proofs.joined.Goals.{After-whole_end-end, Start}
use Rattle.stream_joined.proofs.joined.Goals as goal

-- what is known from the start: the array of twelve, and a line of number 0
size : (c : Start) → length c.args.settings.waiting ≡ 12
size c = let g = c.well_formed.0.1.1.1.1.1.1.1.1.1 in search (unmapped, g.1.1.1.1.1.1.1.1.1)

allowed : (c : Start) → Told (terminal c.args.settings c.args.cells.now c.args.layer.now c.args.dots.now c.args.shown.now) c.args.piece.now
allowed c = told _ _ c.requires.0

pub join-bytes-requires : goal.join-bytes-requires
join-bytes-requires c = let start = (goal.at.join-bytes-requires c).Start in ((told_line (allowed start)).fits, (c.requires.1, omega arith))

-- once the bytes are joined
pub slice_bounds-bytes-end : goal.slice_bounds-bytes-end
slice_bounds-bytes-end c =
    let start = (goal.at.slice_bounds-bytes-end c).Start in
    let a = c.args in
    array_long a.settings a.piece.now a.cells.now a.layer.now a.dots.now a.shown.now (size start) (allowed start) (length a.piece.now) (omega arith) c.join-bytes.result c.join-bytes.ensures

pub slice_bounds-whole_end-end : goal.slice_bounds-whole_end-end
slice_bounds-whole_end-end c =
    let start = (goal.at.slice_bounds-whole_end-end c).Start in
    let a = c.args in
    sym
    (length-take-le _ _
    (array_long a.settings a.piece.now a.cells.now a.layer.now a.dots.now a.shown.now (size start) (allowed start) (length a.piece.now) (omega arith) c.join-bytes.result c.join-bytes.ensures))

-- and their whole items found
known : (c : After-whole_end-end) → let a = c.args in Ended a.settings a.piece.now c.join-bytes.result (length a.piece.now) (a.settings.held + length a.piece.now) c.whole_end-end.result
known c =
    let a = c.args in
    let g = c.well_formed.0.1.1.1.1.1.1.1.1.1 in
    let s : length a.settings.waiting ≡ 12 = search (unmapped, g.1.1.1.1.1.1.1.1.1) in
    ended a.settings a.piece.now a.cells.now a.layer.now a.dots.now a.shown.now s (told _ _ c.requires.0) (length a.piece.now) (omega arith) c.join-bytes.result c.join-bytes.ensures
    c.whole_end-end.result c.whole_end-end.ensures

pub slice_bounds-bytes-end-2 : goal.slice_bounds-bytes-end-2
slice_bounds-bytes-end-2 c =
    omega (arith, known (goal.at.slice_bounds-bytes-end-2 c).After-whole_end-end)

pub slice_bounds-message-end : goal.slice_bounds-message-end
slice_bounds-message-end c =
    sym (length-take-le _ _ (omega (arith, known (goal.at.slice_bounds-message-end c).After-whole_end-end)))

pub returns-then-one-ne0 : goal.returns-then-one-ne0
returns-then-one-ne0 c =
    let start = (goal.at.returns-then-one-ne0 c).Start in
    let a = c.args in
    first_refused a.settings a.piece.now a.cells.now a.layer.now a.dots.now a.shown.now a.printer.now (size start) (allowed start) _ _ _ _ (known (goal.at.returns-then-one-ne0 c).After-whole_end-end) (omega (arith, told_line (allowed start), c.requires))
    _ _ _ _ _ _ _ (by_quiet a.settings c.quieted.ensures c.message-one.ensures) c.if-one-ne0.true

pub overflow_sub-start : goal.overflow_sub-start
overflow_sub-start c =
    (known (goal.at.overflow_sub-start c).After-whole_end-end).line.no_longer

pub slice_bounds-lined-count : goal.slice_bounds-lined-count
slice_bounds-lined-count c =
    (known (goal.at.slice_bounds-lined-count c).After-whole_end-end).low

pub slice_bounds-lined-start : goal.slice_bounds-lined-start
slice_bounds-lined-start c =
    (known (goal.at.slice_bounds-lined-start c).After-whole_end-end).low

pub slice_bounds-lined-end : goal.slice_bounds-lined-end
slice_bounds-lined-end c =
    (known (goal.at.slice_bounds-lined-end c).After-whole_end-end).long

pub overflow_add-count : goal.overflow_add-count
overflow_add-count c =
    omega (arith, (known (goal.at.overflow_add-count c).After-whole_end-end).within)

pub lined-requires : goal.lined-requires
lined-requires c =
    let start = (goal.at.lined-requires c).Start in
    let a = c.args in
    rest_few a.settings a.piece.now a.cells.now a.layer.now a.dots.now a.shown.now a.printer.now (size start) (allowed start) _ _ _ (known (goal.at.lined-requires c).After-whole_end-end)

pub counted_from-requires : goal.counted_from-requires
counted_from-requires c =
    let start = (goal.at.counted_from-requires c).Start in
    let a = c.args in
    let k = known (goal.at.counted_from-requires c).After-whole_end-end in
    let o : c.message-one.result.answer.offset ≤ 64 =
    first_near a.settings a.piece.now a.cells.now a.layer.now a.dots.now a.shown.now a.printer.now (size start) (allowed start) _ _ _ _ k (omega (arith, k.line, c.requires))
    _ _ _ _ _ _ _ (by_quiet a.settings c.quieted.ensures c.message-one.ensures) in
    omega (arith, k.line, o)

pub returns : goal.returns
returns c =
    let start = (goal.at.returns c).Start in
    let a = c.args in
    one_served a.settings a.piece.now a.cells.now a.layer.now a.dots.now a.shown.now a.printer.now (size start) (allowed start) _ _ _ (known (goal.at.returns c).After-whole_end-end) (omega (arith, told_line (allowed start), c.requires))
    _ _ _ _ _ _ _ (by_quiet a.settings c.quieted.ensures c.message-one.ensures) c.if-one-ne0.false _ _ c.counted_from.ensures c.lined.ensures
