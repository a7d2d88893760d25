-- `end_of`: every line from the first up to `end` runs on, so that both have the same end.
use mathlib.Core.Path.{◌∙◌, refl, sym}
use Prim.Native.Nat.{◌-◌}
use native.Mathlib.Omega.{arith}
use lib.ListN.{get_or}
use Rattle.model.specs.Marks.{mark_in}
use Rattle.ground.proofs.LogicalLaws.{ends, passes}
use Rattle.ground.proofs.logical.end_of.Goals as goal

pub loop-frame-init : goal.loop-frame-init
loop-frame-init c =
    (omega arith, (omega arith, refl))

pub loop-frame-smaller : goal.loop-frame-smaller
loop-frame-smaller c =
    let a = c.args in
    let on = passes (mark_in (get_or a.marks.now a.frame.screen 0)) a.frame.lines c.loop-frame.end (sym c.runs.ensures ∙ c.loop-frame-test.true) in
    omega (arith, on.0)

pub loop-frame-preserved : goal.loop-frame-preserved
loop-frame-preserved c =
    let a = c.args in
    let on = passes (mark_in (get_or a.marks.now a.frame.screen 0)) a.frame.lines c.loop-frame.end (sym c.runs.ensures ∙ c.loop-frame-test.true) in
    (omega arith, (omega (arith, on.0), on.1 ∙ c.loop-frame.invariant.1.1))

pub returns : goal.returns
returns c =
    sym (ends _ _ _ (sym c.runs.ensures ∙ c.loop-frame-test.false)) ∙ c.loop-frame.invariant.1.1
