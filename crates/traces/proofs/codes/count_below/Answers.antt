-- `count_below`: no more than there are ticks below the end.
use native.Mathlib.Omega.{arith}
use Rattle.traces.proofs.Counting.{few_below, none_below, some_below}
use Rattle.traces.proofs.codes.count_below.Goals as goal

pub returns-then-first-bound : goal.returns-then-first-bound
returns-then-first-bound c =
    let a = c.args in
    (some_below a.first a.repeating.keys.interval a.end c.if-first-bound.true, omega (arith, few_below a.first a.repeating.keys.interval a.end c.if-first-bound.true))

pub returns-else-first-bound : goal.returns-else-first-bound
returns-else-first-bound c = let a =
    c.args in (none_below a.first a.repeating.keys.interval a.end c.if-first-bound.false, omega arith)
