-- The loop's invariant (proofs/Turns): what was sent and what is left are together the whole call. A turn is one message more.
use mathlib.Core.Path.{ap, refl, subst, sym}
use Prim.Native.Nat.{◌+◌, ◌≤◌}
use native.Mathlib.Omega.{arith}
use Rattle.counting.specs.declared.Counts.{Counts}
use Rattle.calls.proofs.Printing.{buffer_length}
use Rattle.numbers.proofs.Blanks.{blank}
use Rattle.packs.proofs.Turns.{addable, again, begin, end, going_length, numbers, record_fits, servable}
use Rattle.packs.proofs.sending.send_each.Goals as goal

pub loop-at-init : goal.loop-at-init
loop-at-init c =
    begin _ _ _ _ _ _ _ c.requires (blank c.default-answer.result c.default-answer.ensures)

-- where a record begins: all of it is there
pub overflow_add-start : goal.overflow_add-start
overflow_add-start c = let h =
    c.loop-at.invariant in omega (arith, h.few, c.loop-at-test.true)

pub length_at-requires : goal.length_at-requires
length_at-requires c =
    omega (arith, record_fits _ _ _ _ _ _ _ c.loop-at.invariant c.loop-at-test.true refl)

pub overflow_add-end : goal.overflow_add-end
overflow_add-end c =
    omega (arith, record_fits _ _ _ _ _ _ _ c.loop-at.invariant c.loop-at-test.true c.length_at.ensures, c.loop-at.invariant.few)

pub slice_bounds-serve_from-end : goal.slice_bounds-serve_from-end
slice_bounds-serve_from-end c =
    record_fits _ _ _ _ _ _ _ c.loop-at.invariant c.loop-at-test.true c.length_at.ensures

pub slice_bounds-serve_from-count-in-loop-at : goal.slice_bounds-serve_from-count-in-loop-at
slice_bounds-serve_from-count-in-loop-at c =
    let g = c.loop-at.invariant.going in omega (arith, g.fits, going_length _ _ _ _ _ _ _ g)

pub slice_bounds-serve_from-start-in-loop-at : goal.slice_bounds-serve_from-start-in-loop-at
slice_bounds-serve_from-start-in-loop-at c =
    let g = c.loop-at.invariant.going in omega (arith, g.fits, going_length _ _ _ _ _ _ _ g)

pub serve_from-out-requires : goal.serve_from-out-requires
serve_from-out-requires c =
    let none = c.no_counts-none.ensures in
    record { servable = servable _ _ _ _ _ _ _ c.loop-at.invariant c.loop-at-test.true c.length_at.ensures; from_in_bounds = (omega arith, (subst (λ (x : Counts). x.accepted + x.refused ≤ 0) (sym none) (omega arith), ap (λ (x : Counts). x.printed) none)) }

-- behind the message
pub overflow_add-number : goal.overflow_add-number
overflow_add-number c =
    omega (arith, numbers _ _ _ _ _ _ _ c.loop-at.invariant c.loop-at-test.true c.length_at.ensures)

pub together-answer-requires : goal.together-answer-requires
together-answer-requires c =
    addable _ _ _ _ _ _ _ c.loop-at.invariant c.loop-at-test.true c.length_at.ensures c.serve_from-out.result c.no_counts-none.ensures c.serve_from-out.ensures (omega (arith, c.well_formed.1.1.1.1.1.1))

pub loop-at-smaller : goal.loop-at-smaller
loop-at-smaller c =
    omega (arith, record_fits _ _ _ _ _ _ _ c.loop-at.invariant c.loop-at-test.true c.length_at.ensures)

pub loop-at-preserved : goal.loop-at-preserved
loop-at-preserved c =
    again _ _ _ _ _ _ _ c.loop-at.invariant c.loop-at-test.true c.length_at.ensures c.serve_from-out.result c.no_counts-none.ensures c.serve_from-out.ensures
    c.together-answer.ensures c.record_then-found.ensures

pub shape_of-cells : goal.shape_of-cells
shape_of-cells c = let h =
    c.loop-at.invariant in omega (arith, h.going.quiet.good.cells_are, h.began.good.cells_are)

pub shape_of-layer : goal.shape_of-layer
shape_of-layer c = let h =
    c.loop-at.invariant in omega (arith, h.going.quiet.good.layer_are, h.began.good.layer_are)

pub shape_of-shown : goal.shape_of-shown
shape_of-shown c = let h =
    c.loop-at.invariant in omega (arith, h.going.quiet.shown_is, h.began.shown_is)

pub shape_of-dots : goal.shape_of-dots
shape_of-dots c = let h =
    c.loop-at.invariant in omega (arith, h.going.quiet.good.dots_are, h.began.good.dots_are)

-- the end
pub returns : goal.returns
returns c =
    rw c.unwrap_or.ensures (end _ _ _ _ _ _ _ c.loop-at.invariant c.loop-at-test.false)

pub shape_of-printer : goal.shape_of-printer
shape_of-printer c =
    buffer_length _ (returns c)
