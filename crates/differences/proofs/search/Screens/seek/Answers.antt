-- `seek`: what was looked at does not differ, so the search from here finds what the search from the start does.
use mathlib.Core.Path.{sym, ◌∙◌}
use native.Mathlib.Omega.{arith}
use Rattle.differences.proofs.Laws.{other, place_end, place_here, place_same, same}
use Rattle.differences.proofs.search.Screens.seek.Goals as goal

pub loop-place-preserved : goal.loop-place-preserved
loop-place-preserved c =
    sym (place_same c.loop-place.place _ _ c.loop-place-test.true (same c.differ.ensures c.if-differ.false)) ∙ c.loop-place.invariant

pub returns-then-differ : goal.returns-then-differ
returns-then-differ c =
    sym (place_here c.loop-place.place _ _ c.loop-place-test.true (other c.differ.ensures c.if-differ.true)) ∙ c.loop-place.invariant

pub returns : goal.returns
returns c =
    let end = place_end c.loop-place.place c.args.self.first.now c.args.self.second.now c.loop-place-test.false in
    omega (arith, end, c.loop-place.invariant, c.loop-place.auto)
