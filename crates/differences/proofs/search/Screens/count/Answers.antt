-- `count`: what was counted and what is left to list are together the whole list.
use mathlib.Core.Path.{ap, ◌∙◌}
use native.Mathlib.Nat.{zero-add}
use native.Mathlib.Omega.{arith}
use lib.ListN.{length}
use Rattle.differences.proofs.Laws.{list_start, list_same, list_other, list_end, other, same}
use Rattle.differences.proofs.search.Screens.count.Goals as goal
use Rattle.differences.proofs.search.Screens.count.Goals.{then-differ, else-differ}

pub loop-place-init : goal.loop-place-init
loop-place-init c =
    (omega arith, zero-add _ ∙ ap length (list_start _ _))

pub loop-place-preserved : goal.loop-place-preserved
loop-place-preserved c =
    let more = c.loop-place-test.true in
    let inv = c.loop-place.invariant in
    let a = c.args.self.first.now in
    let b = c.args.self.second.now in
    elim c.if-differ.branch [
      | then-differ w ↦
          let e = ap length (list_other c.loop-place.place a b more (other c.differ.ensures w.if-differ.true)) in
          (omega (arith, inv.0, w.n-is), omega (arith, w.n-is, inv.1, e))
      | else-differ w ↦
          let e = ap length (list_same c.loop-place.place a b more (same c.differ.ensures w.if-differ.false)) in
          (omega (arith, inv.0, w.n-is), omega (arith, w.n-is, inv.1, e))
    ]

pub returns : goal.returns
returns c =
    let e = ap length (list_end c.loop-place.place c.args.self.first.now c.args.self.second.now c.loop-place-test.false c.loop-place.auto.place-end) in
    omega (arith, c.loop-place.invariant.1, e, c.from.ensures)
