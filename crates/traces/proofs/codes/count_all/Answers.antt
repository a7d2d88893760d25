-- `count_all`: what was counted, with the codes that are left, is all; and no stroke sends more than 4,294,967,296.
use native.Mathlib.Omega.{arith}
use Rattle.traces.proofs.Stepping.{behind_all, end_read, next_read}
use Rattle.traces.proofs.Counting.{sent_length, sent_none}
use Rattle.traces.proofs.codes.count_all.Goals as goal

pub loop-i-preserved : goal.loop-i-preserved
loop-i-preserved c =
    let l = c.loop-i in
    let n = rw (behind_all c.args.strokes.now l.i) at c.count_at-count.ensures in
    let more = sent_length c.args.repeating.keys (next_read c.args.strokes.now l.i c.loop-i-test.true c.into.ensures) in
    (omega (arith, n.1, l.invariant.0), omega (arith, n.0, more, l.invariant.1))

pub returns : goal.returns
returns c =
    let l = c.loop-i in
    omega (arith, sent_none c.args.repeating.keys (end_read c.args.strokes.now l.i c.loop-i-test.false), l.invariant.1)
