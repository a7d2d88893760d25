-- Refused by its own line, or by the message call of what waits; served, that call is all of it.
use mathlib.Core.Path.{◌≡◌, sym}
use native.Mathlib.Omega.{arith}
use lib.ListN.{length}
use lib.Seq.{length-take-le}
use Rattle.model.proofs.RefusalLaws.{not_0}
use Rattle.model.specs.Line.{LineSound}
use Rattle.calls.specs.Calls.{terminal}
use Rattle.unfinished.proofs.Arrays.{unmapped}
use Rattle.stream_parts.specs.Parts.{closing_number}
use Rattle.stream_parts.proofs.Closing.{closing-by, closing_near, closing-not, closing_served, closing_sound}
use Rattle.stream_parts.proofs.Quiet.{by_quiet}
use Rattle.stream_closing.proofs.closing.Goals.{In_default, Start}
use Rattle.stream_closing.proofs.closing.Goals as goal

-- the array is as long as its type says
size : (c : Start) → length c.args.settings.waiting ≡ 12
size c = let g = c.well_formed.0.1.1.1.1.1.1.1.1.1 in search (unmapped, g.1.1.1.1.1.1.1.1.1)

-- nothing refuses it: the line is sound
zero : (c : In_default) → let a = c.args in closing_number (terminal a.settings a.cells.now a.layer.now a.dots.now a.shown.now) ≡ 0
zero c = sym c.in_default.ensures

line : (c : In_default) → length c.args.settings.waiting ≡ 12 → let s = c.args.settings in LineSound s.waiting s.held s.count
line c e = let a = c.args in closing_sound a.settings a.cells.now a.layer.now a.dots.now a.shown.now e (zero c)

pub returns-in-Err : goal.returns-in-Err
returns-in-Err c =
    let a = c.args in
    closing-not (terminal a.settings a.cells.now a.layer.now a.dots.now a.shown.now) _ _ c.in-Err.ensures (not_0 _) c.refused-answer.ensures

pub slice_bounds-waiting-end : goal.slice_bounds-waiting-end
slice_bounds-waiting-end c =
    let at = goal.at.slice_bounds-waiting-end c in
    omega (arith, (line at.In_default (size at.Start)).fits, size at.Start)

pub slice_bounds-message-end : goal.slice_bounds-message-end
slice_bounds-message-end c =
    let at = goal.at.slice_bounds-message-end c in
    sym (length-take-le _ _ (omega (arith, (line at.In_default (size at.Start)).fits, size at.Start)))

pub returns-then-one-ne0 : goal.returns-then-one-ne0
returns-then-one-ne0 c =
    let at = goal.at.returns-then-one-ne0 c in
    let a = c.args in
    closing-by a.settings a.cells.now a.layer.now a.dots.now a.shown.now (size at.Start) (zero at.In_default) _ _ _ _ _ _ _ (by_quiet a.settings c.quieted.ensures c.message-one.ensures) c.if-one-ne0.true

pub overflow_sub-start : goal.overflow_sub-start
overflow_sub-start c =
    let at = goal.at.overflow_sub-start c in
    (line at.In_default (size at.Start)).no_longer

-- these two hold of any number of the bytes that waited: only the promise tells that none is kept
pub slice_bounds-waiting-end-2 : goal.slice_bounds-waiting-end-2
slice_bounds-waiting-end-2 c =
    let at = goal.at.slice_bounds-waiting-end-2 c in
    omega (arith, (line at.In_default (size at.Start)).fits, size at.Start)

pub slice_bounds-lined-end : goal.slice_bounds-lined-end
slice_bounds-lined-end c =
    let at = goal.at.slice_bounds-lined-end c in
    sym (length-take-le _ c.args.settings.waiting (omega (arith, (line at.In_default (size at.Start)).fits, size at.Start)))

pub counted_from-requires : goal.counted_from-requires
counted_from-requires c =
    let at = goal.at.counted_from-requires c in
    let a = c.args in
    closing_near a.settings a.cells.now a.layer.now a.dots.now a.shown.now (size at.Start) (zero at.In_default) _ _ _ _ _ _ _ (by_quiet a.settings c.quieted.ensures c.message-one.ensures)

pub returns : goal.returns
returns c =
    let at = goal.at.returns c in
    let a = c.args in
    closing_served a.settings a.cells.now a.layer.now a.dots.now a.shown.now (size at.Start) (zero at.In_default) _ _ _ _ _ _ _ (by_quiet a.settings c.quieted.ensures c.message-one.ensures) c.if-one-ne0.false
    _ _ c.counted_from.ensures c.lined.ensures
