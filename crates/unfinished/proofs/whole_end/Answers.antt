-- What is behind the items that were gone over ends where all of it does.
use mathlib.Core.Path.{◌∙◌, ◌≡◌, sym}
use Prim.Native.Nat.{◌≤◌, ◌-◌}
use native.Mathlib.Omega.{arith}
use lib.ListN.{drop, length, length-drop, length-take, take}
use borrow.Author.Rules.{rules}
use Rattle.unfinished.proofs.EndLaws.{end_late, end_next, end_stop}
use Rattle.unfinished.proofs.TestLaws.{none_late}
use Rattle.unfinished.specs.Whole.{whole_item}
use Rattle.unfinished.proofs.whole_end.Goals as goal

pub returns-then-no_late_escape : goal.returns-then-no_late_escape
returns-then-no_late_escape c =
    end_late c.args.bytes.now (none_late c.args.bytes.now (sym c.no_late_escape.ensures ∙ c.if-no_late_escape.true))

pub loop-length-preserved : goal.loop-length-preserved
loop-length-preserved c =
    let l = c.loop-length in
    let n = c.in-Some.length in
    let bs = l.rest.now in
    let item : (n ≡ whole_item bs) × ((1 ≤ n) × (n ≤ length bs)) = search rules in
    let size : length (take (length bs - n) (drop n bs)) ≡ length bs - n = simp (length-take, length-drop) (omega arith) in
    let on = end_next bs n item.0 item.1.0 in
    (omega (arith, size, l.invariant.0), omega (arith, size, l.invariant.0, l.invariant.1, on, item.1.1))

pub returns : goal.returns
returns c =
    let l = c.loop-length in
    let none : whole_item l.rest.now ≡ 0 = search rules in
    omega (arith, end_stop l.rest.now none, l.invariant.0, l.invariant.1)
