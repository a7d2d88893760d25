-- `block_prints`: the loop's test is that of the first k bytes of the block.
use mathlib.Core.Path.{◌∙◌, ◌≡◌, ap}
use native.Mathlib.Omega.{arith}
use borrow.Author.Rules.{rules}
use Rattle.runs.specs.Run.{all_print?}
use Rattle.runs.proofs.Runs.{all_more, too_few}
use Rattle.runs.proofs.block_prints.Goals as goal

pub returns-then-message-at : goal.returns-then-message-at
returns-then-message-at c =
    too_few _ _ _ (omega arith)

pub loop-k-init : goal.loop-k-init
unfolding all_print?
loop-k-init c = search rules

pub loop-k-preserved : goal.loop-k-preserved
loop-k-preserved c =
    let a = c.args in
    let l = c.loop-k in
    (search rules, all_more a.message.now a.at l.k l.invariant.1)

pub returns : goal.returns
returns c =
    let a = c.args in
    let l = c.loop-k in
    let k : l.k ≡ a.size = omega arith in
    l.invariant.1 ∙ ap (all_print? a.message.now a.at) k
