-- The loop's invariant (proofs/Watching): it is serving's loop, and what is left of the message gives the same shown screen. Each way through the loop is one
-- turn of it.
use mathlib.Core.Path.{◌∙◌, refl, sym}
use Prim.Native.Nat.{◌<◌}
use native.Mathlib.Omega.{arith}
use Rattle.model.proofs.Keep.{chosen}
use Rattle.serving.proofs.Turns.{applying, countable, further, good, offered}
use Rattle.short_serving.proofs.Watching.{watch_away, watch_ends, watch_first, watch_stays}
use Rattle.short_serving.proofs.serve_items.Goals as goal

pub selected_place-place-requires : goal.selected_place-place-requires
selected_place-place-requires c =
    chosen _ c.requires.good.sound

pub frame_of-frame-requires : goal.frame_of-frame-requires
frame_of-frame-requires c =
    c.requires.good.sound

pub loop-at-init : goal.loop-at-init
loop-at-init c =
    watch_first _ _ _ _ _ _ _ c.requires c.frame_of-frame.ensures c.all_zero.ensures.0 c.selected_place-place.ensures c.no_counts-counts.ensures

pub overflow_sub-printer : goal.overflow_sub-printer
overflow_sub-printer c =
    omega (arith, c.loop-at.invariant.loop.going.fits, c.loop-at.invariant.loop.going.same_size)

pub read_at-read-requires : goal.read_at-read-requires
read_at-read-requires c =
    record { at_in_bounds = c.loop-at-test.true; message_len_bound = c.loop-at.invariant.loop.sendable }

pub count-counts-requires : goal.count-counts-requires
count-counts-requires c =
    countable _ _ _ _ _ _ _ _ c.loop-at.invariant.loop c.loop-at-test.true c.read_at-read.result c.read_at-read.ensures (omega (arith, c.loop-at.invariant.loop.going.same_size, c.well_formed.1.1.1.1.1.1.0))

pub obey_item-run-requires : goal.obey_item-run-requires
obey_item-run-requires c =
    let g = c.loop-at.invariant in
    record { ready = g.loop.ready; shown_len = g.still.size; offered = offered _ _ _ _ _ _ _ _ g.loop c.loop-at-test.true c.read_at-read.result c.read_at-read.ensures }

pub wipe_after-requires : goal.wipe_after-requires
wipe_after-requires c =
    c.loop-at.invariant.loop.going.good.dots_are

-- one that stays
pub loop-at-smaller-then-stays : goal.loop-at-smaller-then-stays
loop-at-smaller-then-stays c =
    let more : c.loop-at.at < c.obey_item-run.result.at = further _ _ _ _ _ _ _ _ c.loop-at.invariant.loop c.loop-at-test.true c.read_at-read.result c.read_at-read.ensures c.obey_item-run.ensures.0 c.bare_after.ensures c.wipe_after.ensures c.count-counts.ensures in
    omega (arith, more, c.loop-at-test.true)

pub loop-at-preserved-then-stays : goal.loop-at-preserved-then-stays
loop-at-preserved-then-stays c =
    watch_stays _ _ _ _ _ _ _ c.loop-at.invariant c.loop-at-test.true c.read_at-read.result c.read_at-read.ensures c.obey_item-run.ensures c.bare_after.ensures c.wipe_after.ensures c.count-counts.ensures
    (sym c.stays.ensures ∙ c.if-stays.true) refl

-- one that does not
pub placed-places-requires : goal.placed-places-requires
placed-places-requires c =
    chosen _ c.loop-at.invariant.loop.going.good.sound

pub apply-s-requires : goal.apply-s-requires
apply-s-requires c =
    applying _ _ _ _ _ _ _ _ c.loop-at.invariant.loop c.loop-at-test.true c.read_at-read.result c.read_at-read.ensures c.obey_item-run.ensures.0 c.bare_after.ensures c.wipe_after.ensures c.count-counts.ensures
    (sym c.stays.ensures ∙ c.if-stays.false) c.placed-places.ensures

pub selected_place-place-requires-in-loop-at : goal.selected_place-place-requires-in-loop-at
selected_place-place-requires-in-loop-at c =
    chosen _ (good _ _ _ _ _ _ _ _ c.loop-at.invariant.loop c.loop-at-test.true c.read_at-read.result c.read_at-read.ensures c.obey_item-run.ensures.0 c.bare_after.ensures c.wipe_after.ensures c.count-counts.ensures
    (sym c.stays.ensures ∙ c.if-stays.false) c.placed-places.ensures c.apply-s.ensures).sound

pub frame_of-frame-requires-in-loop-at : goal.frame_of-frame-requires-in-loop-at
frame_of-frame-requires-in-loop-at c =
    (good _ _ _ _ _ _ _ _ c.loop-at.invariant.loop c.loop-at-test.true c.read_at-read.result c.read_at-read.ensures c.obey_item-run.ensures.0 c.bare_after.ensures c.wipe_after.ensures c.count-counts.ensures
    (sym c.stays.ensures ∙ c.if-stays.false) c.placed-places.ensures c.apply-s.ensures).sound

pub loop-at-smaller : goal.loop-at-smaller
loop-at-smaller c =
    let more : c.loop-at.at < c.obey_item-run.result.at = further _ _ _ _ _ _ _ _ c.loop-at.invariant.loop c.loop-at-test.true c.read_at-read.result c.read_at-read.ensures c.obey_item-run.ensures.0 c.bare_after.ensures c.wipe_after.ensures c.count-counts.ensures in
    omega (arith, more, c.loop-at-test.true)

pub loop-at-preserved : goal.loop-at-preserved
loop-at-preserved c =
    watch_away _ _ _ _ _ _ _ c.loop-at.invariant c.loop-at-test.true c.read_at-read.result c.read_at-read.ensures c.obey_item-run.ensures c.bare_after.ensures c.wipe_after.ensures c.count-counts.ensures
    (sym c.stays.ensures ∙ c.if-stays.false) c.placed-places.ensures c.apply-s.ensures c.selected_place-place-in-loop-at.ensures c.frame_of-frame-in-loop-at.ensures refl

pub answer_of-answer-requires : goal.answer_of-answer-requires
answer_of-answer-requires c =
    omega (arith, c.loop-at.invariant.loop.going.reached, c.loop-at.invariant.loop.sendable)

-- the end
pub finish-requires : goal.finish-requires
finish-requires c =
    let g = c.loop-at.invariant.loop.going.good in
    record { sound = g.sound; bare_is = c.loop-at.invariant.loop.ready.layer_are.empty }

pub shape_of-printer : goal.shape_of-printer
shape_of-printer c =
    c.loop-at.invariant.loop.going.same_size

pub returns : goal.returns
returns c =
    let done = c.finish.ensures in
    watch_ends _ _ _ _ _ _ _ c.loop-at.invariant _ c.loop-at-test.false done.0 (done.1.0 ∙ c.answer_of-answer.ensures) (done.1.1 _)
