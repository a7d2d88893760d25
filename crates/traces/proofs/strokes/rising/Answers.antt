-- `rising`: from the last tick on, what is left never falls exactly if the trace never does.
use mathlib.Core.Path.{◌∙◌, sym}
use native.Mathlib.Omega.{arith}
use Rattle.traces.proofs.Stepping.{end_read, next_read, rising_end, rising_not, rising_on}
use Rattle.traces.proofs.strokes.rising.Goals as goal

pub returns-then-stroke-last : goal.returns-then-stroke-last
returns-then-stroke-last c =
    let l = c.loop-bytes in
    sym (l.invariant ∙ rising_not (next_read c.args.strokes.now l.bytes-index c.loop-bytes-test.true c.from-stroke.ensures) (omega (arith, c.if-stroke-last.true)))

pub loop-bytes-preserved : goal.loop-bytes-preserved
loop-bytes-preserved c =
    let l = c.loop-bytes in
    l.invariant ∙ rising_on (next_read c.args.strokes.now l.bytes-index c.loop-bytes-test.true c.from-stroke.ensures) (omega (arith, c.if-stroke-last.false))

pub returns : goal.returns
returns c =
    let l = c.loop-bytes in
    sym (l.invariant ∙ rising_end l.last (end_read c.args.strokes.now l.bytes-index c.loop-bytes-test.false))
