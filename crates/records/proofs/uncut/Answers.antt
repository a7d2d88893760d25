-- `uncut`: what is left of the bytes is cut exactly if all of them are.
use mathlib.Core.Path.{◌∙◌, sym}
use native.Mathlib.Omega.{arith}
use Rattle.records.proofs.Laws.{uncut_end, uncut_not, uncut_rest}
use Rattle.records.proofs.uncut.Goals as goal

pub returns-then-rest-size : goal.returns-then-rest-size
returns-then-rest-size c =
    sym (c.loop-rest.invariant ∙ uncut_not c.loop-rest.rest.now (omega arith) (omega (arith, c.length_at.ensures)))

pub loop-rest-preserved : goal.loop-rest-preserved
loop-rest-preserved c =
    c.loop-rest.invariant ∙ uncut_rest c.loop-rest.rest.now (c.from-size.ensures ∙ c.length_at.ensures) (omega arith)

pub returns : goal.returns
returns c =
    c.is_empty.ensures ∙ uncut_end c.loop-rest.rest.now (omega arith) ∙ sym c.loop-rest.invariant
