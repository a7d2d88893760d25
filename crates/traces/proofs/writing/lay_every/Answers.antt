-- `lay_every`: what stands, with the codes that are left put behind it, is the whole; four bytes hold each tick that is left.
use mathlib.Core.Path.{◌∙◌, ◌≡◌, sym}
use Prim.Native.Nat.{◌+◌, ◌-◌}
use native.Mathlib.Omega.{arith}
use Rattle.traces.proofs.Laying.{every_none, every_step}
use Rattle.traces.proofs.Claimed.{held_on}
use Rattle.traces.proofs.writing.lay_every.Goals as goal

pub loop-preserved : goal.loop-preserved
loop-preserved c =
    let a = c.args in
    let l = c.loop in
    let one : a.count - l.counter ≡ a.count - (l.counter + 1) + 1 = omega arith in
    let step = every_step l.at a.key a.interval l.tick l.output (a.count - l.counter) (a.count - (l.counter + 1)) one c.lay.ensures (omega (arith, l.invariant.1.0, l.invariant.1.1.0)) in
    (step.0 ∙ l.invariant.0, (omega (arith, l.invariant.1.0), (step.1 ∙ l.invariant.1.1.0, held_on l.tick a.interval one l.invariant.1.1.1)))

pub returns : goal.returns
returns c =
    let a = c.args in
    let l = c.loop in
    (sym (every_none l.at a.key a.interval l.tick l.output (a.count - l.counter) (omega arith)) ∙ l.invariant.0, omega (arith, l.invariant.1.0))
