-- `first_difference`: no place that was looked at differs, so the search from here finds what the search from the start does; a row's end is
-- the next row's start.
use mathlib.Core.Path.{◌≡◌, sym, ap, ◌∙◌}
use mathlib.Core.Bool.{false}
use Prim.Native.Nat.{ℕ, ◌+◌, ◌*◌}
use lib.Dec.{eqb}
use lib.ListN.{get_or}
use Rattle.std.specs.Prelude.{Some}
use Rattle.std.proofs.lemmas.Result.{err_from_is_err_and}
use Rattle.differences.specs.declared.Difference.{Difference}
use Rattle.differences.specs.Differences.{record_at}
use native.Mathlib.Omega.{arith}
use Rattle.differences.proofs.Laws.{answered, err, first_here, first_none, first_promised, first_refused, moved, other, place_from, place_same, same}
use Rattle.differences.proofs.first_difference.Goals as goal

pub returns-in_err-screens : goal.returns-in_err-screens
returns-in_err-screens c =
    let p = err_from_is_err_and c.from_residual.result c.from_residual.ensures.1 in
    let known = c.in_err-screens.ensures in
    first_promised c.args.first.now c.args.second.now (p.1 ∙ ap err (p.2 ∙ known.1) ∙ sym (first_refused _ _ known.0))

pub loop-column-preserved : goal.loop-column-preserved
loop-column-preserved c =
    let row = c.rows.row in
    let column = c.loop-column.column in
    (c.loop-column.invariant.0, moved (row * 80 + column + 1) (row * 80 + (column + 1)) _ _ _ (omega arith) (sym (place_same (row * 80 + column) _ _ (omega (arith, c.rows-test.true, c.loop-column-test.true)) (same c.differ.ensures c.if-differ.false)) ∙ c.loop-column.invariant.1))

pub returns-after-rows : goal.returns-after-rows
returns-after-rows c =
    let known = c.in_ok-screens.ensures in
    let a = c.args.first.now in
    let b = c.args.second.now in
    let from : place_from (c.rows.row * 80) a b ≡ place_from 0 a b = rw (sym known.1.0, sym known.1.1) c.rows.invariant.1 in
    first_promised a b (ap answered c.rows.invariant.0 ∙ first_none (c.rows.row * 80) a b known.0 (omega (arith, c.rows-test.false)) from)

pub returns-then-differ : goal.returns-then-differ
returns-then-differ c =
    let known = c.in_ok-screens.ensures in
    let a = c.args.first.now in
    let b = c.args.second.now in
    let p : ℕ = c.rows.row * 80 + c.loop-column.column in
    let s = c.in_ok-screens.screens in
    let from : place_from p a b ≡ place_from 0 a b = rw (sym known.1.0, sym known.1.1) c.loop-column.invariant.1 in
    let differs : eqb (get_or a p 0) (get_or b p 0) ≡ false = rw (sym known.1.0, sym known.1.1) (other c.differ.ensures c.if-differ.true) in
    let is : c.record_at.result ≡ record_at a b p = rw (sym known.1.0, sym known.1.1) c.record_at.ensures in
    first_promised a b (ap (λ (d : Difference). answered (Some d)) is ∙ first_here p a b known.0 (omega (arith, c.rows-test.true, c.loop-column-test.true)) from differs)
