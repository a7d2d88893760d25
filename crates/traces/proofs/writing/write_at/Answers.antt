-- `write_at`: what a press sends, or nothing for a release.
use native.Mathlib.Omega.{arith}
use mathlib.Core.Path.{ap, sym}
use lib.ListN.{length}
use Rattle.traces.proofs.Counting.{at_press, at_release}
use Rattle.traces.proofs.Laying.{no_codes}
use Rattle.traces.proofs.writing.write_at.Goals as goal

pub write_press-requires : goal.write_press-requires
write_press-requires c =
    let a = c.args in
    omega (arith, ap length (at_press a.repeating.keys a.stroke _ c.if-stroke.true c.end_of-end.ensures), c.requires)

pub returns-then-stroke : goal.returns-then-stroke
returns-then-stroke c =
    let a = c.args in
    rw (at_press a.repeating.keys a.stroke _ c.if-stroke.true c.end_of-end.ensures) c.write_press.ensures

pub returns-else-stroke : goal.returns-else-stroke
returns-else-stroke c =
    let a = c.args in
    rw (at_release a.repeating.keys a.stroke _ c.if-stroke.false) (sym (no_codes a.place a.output.now), omega arith)
