-- `count_at`: the press and its repeats, or nothing for a release.
use native.Mathlib.Omega.{arith}
use mathlib.Core.Path.{ap, sym}
use lib.ListN.{length}
use Rattle.traces.proofs.Counting.{at_press, at_release, by_length}
use Rattle.traces.proofs.codes.count_at.Goals as goal

pub returns-then-stroke : goal.returns-then-stroke
returns-then-stroke c =
    let a = c.args in
    let n = c.repeat_count.ensures in
    (omega (arith, ap length (at_press a.repeating.keys a.stroke _ c.if-stroke.true c.end_of-end.ensures), by_length a.repeating.keys a.stroke _ n.0), omega (arith, n.1))

pub returns-else-stroke : goal.returns-else-stroke
returns-else-stroke c =
    let a = c.args in
    (sym (ap length (at_release a.repeating.keys a.stroke _ c.if-stroke.false)), omega arith)
