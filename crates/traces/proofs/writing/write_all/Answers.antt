-- `write_all`: what stands, with the codes of the strokes that are left put behind it, is the whole.
use mathlib.Core.Path.{◌∙◌, sym}
use native.Mathlib.Omega.{arith}
use Rattle.traces.proofs.Stepping.{behind_all, end_read, next_read}
use Rattle.traces.proofs.Counting.{sent_length}
use Rattle.traces.proofs.Laying.{all_none, all_step}
use Rattle.traces.proofs.writing.write_all.Goals as goal

pub write_at-place-requires : goal.write_at-place-requires
write_at-place-requires c =
    let l = c.loop-i in
    rw (behind_all c.args.strokes.now l.i) (omega (arith, l.invariant.1.0, l.invariant.1.1, sent_length c.args.repeating.keys (next_read c.args.strokes.now l.i c.loop-i-test.true c.into.ensures)))

pub loop-i-preserved : goal.loop-i-preserved
loop-i-preserved c =
    let k = c.args.repeating.keys in
    let l = c.loop-i in
    let e = next_read c.args.strokes.now l.i c.loop-i-test.true c.into.ensures in
    let w = rw (behind_all c.args.strokes.now l.i) at c.write_at-place.ensures in
    let step = all_step k l.place l.output e (omega (arith, l.invariant.1.0, l.invariant.1.1)) w in
    (step.0 ∙ l.invariant.0, (omega (arith, l.invariant.1.0, sent_length k e, w.1), omega (arith, step.1, l.invariant.1.1)))

pub returns : goal.returns
returns c =
    let l = c.loop-i in
    sym (all_none c.args.repeating.keys l.place l.output (end_read c.args.strokes.now l.i c.loop-i-test.false)) ∙ l.invariant.0
