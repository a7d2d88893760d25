-- `end_of`: from the tick last passed on, what is left ends the press where the strokes behind it do.
use mathlib.Core.Path.{◌∙◌, sym}
use Rattle.traces.proofs.Stepping.{end_read, next_read}
use Rattle.traces.proofs.Counting.{end_here, end_last, end_on}
use Rattle.traces.proofs.codes.end_of.Goals as goal

pub returns-then-ends : goal.returns-then-ends
returns-then-ends c =
    let l = c.loop-bytes in
    sym (l.invariant ∙ end_here c.args.key l.last (next_read c.args.behind.now l.bytes-index c.loop-bytes-test.true c.from-stroke.ensures) (sym c.ends.ensures ∙ c.if-ends.true))

pub loop-bytes-preserved : goal.loop-bytes-preserved
loop-bytes-preserved c =
    let l = c.loop-bytes in
    l.invariant ∙ end_on c.args.key l.last (next_read c.args.behind.now l.bytes-index c.loop-bytes-test.true c.from-stroke.ensures) (sym c.ends.ensures ∙ c.if-ends.false)

pub returns : goal.returns
returns c =
    let l = c.loop-bytes in
    sym (l.invariant ∙ end_last c.args.key l.last (end_read c.args.behind.now l.bytes-index c.loop-bytes-test.false))
