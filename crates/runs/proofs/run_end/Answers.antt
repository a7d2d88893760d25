-- `run_end`: the bytes up to i print, in blocks, behind a block in long ones, and then one by one, until one does not.
use mathlib.Core.Path.{◌∙◌, sym}
use native.Mathlib.Omega.{arith}
use Rattle.runs.proofs.Runs.{all_printing, printing_more, printing_one, there}
use Rattle.runs.proofs.run_end.Goals as goal

pub overflow_add-i : goal.overflow_add-i
overflow_add-i c =
    omega (arith, there c.args.message.now c.args.at c.requires)

pub loop-i-init : goal.loop-i-init
loop-i-init c =
    printing_one c.requires

pub overflow_add-i-in-loop-i : goal.overflow_add-i-in-loop-i
overflow_add-i-in-loop-i c =
    omega (arith, (all_printing c.args.message.now c.loop-i.i 16 (omega arith) (sym c.block_prints.ensures ∙ c.loop-i-test.true)).inside)

pub loop-i-2-init : goal.loop-i-2-init
loop-i-2-init c =
    (omega arith, printing_more c.loop-i.invariant (all_printing c.args.message.now c.loop-i.i 16 (omega arith) (sym c.block_prints.ensures ∙ c.loop-i-test.true)))

pub loop-i-smaller : goal.loop-i-smaller
loop-i-smaller c =
    omega (arith, (all_printing c.args.message.now c.loop-i.i 16 (omega arith) (sym c.block_prints.ensures ∙ c.loop-i-test.true)).inside, c.loop-i-2.invariant.0)

pub loop-i-preserved : goal.loop-i-preserved
loop-i-preserved c =
    c.loop-i-2.invariant.1

pub overflow_add-i-in-loop-i-2 : goal.overflow_add-i-in-loop-i-2
overflow_add-i-in-loop-i-2 c =
    omega (arith, (all_printing c.args.message.now c.loop-i-2.i 128 (omega arith) (sym c.block_prints-in-loop-i-2.ensures ∙ c.loop-i-2-test.true)).inside)

pub loop-i-2-smaller : goal.loop-i-2-smaller
loop-i-2-smaller c =
    omega (arith, (all_printing c.args.message.now c.loop-i-2.i 128 (omega arith) (sym c.block_prints-in-loop-i-2.ensures ∙ c.loop-i-2-test.true)).inside)

pub loop-i-2-preserved : goal.loop-i-2-preserved
loop-i-2-preserved c =
    (omega (arith, c.loop-i-2.invariant.0), printing_more c.loop-i-2.invariant.1 (all_printing c.args.message.now c.loop-i-2.i 128 (omega arith) (sym c.block_prints-in-loop-i-2.ensures ∙ c.loop-i-2-test.true)))

pub loop-i-3-init : goal.loop-i-3-init
loop-i-3-init c =
    c.loop-i.invariant

pub overflow_add-i-in-loop-i-3 : goal.overflow_add-i-in-loop-i-3
overflow_add-i-in-loop-i-3 c =
    omega (arith, (printing_one {m = c.args.message.now} {at = c.loop-i-3.i} (sym c.prints.ensures ∙ c.loop-i-3-test.true)).inside)

pub loop-i-3-smaller : goal.loop-i-3-smaller
loop-i-3-smaller c =
    omega (arith, (printing_one {m = c.args.message.now} {at = c.loop-i-3.i} (sym c.prints.ensures ∙ c.loop-i-3-test.true)).inside)

pub loop-i-3-preserved : goal.loop-i-3-preserved
loop-i-3-preserved c =
    printing_more c.loop-i-3.invariant (printing_one {m = c.args.message.now} {at = c.loop-i-3.i} (sym c.prints.ensures ∙ c.loop-i-3-test.true))

pub returns : goal.returns
returns c =
    record { printing = c.loop-i-3.invariant; ends = sym c.prints.ensures ∙ c.loop-i-3-test.false }
