-- By the test of the rule and the column.
use mathlib.Core.Path.{ap, sym}
use mathlib.Core.Bool.{Bool, cond}
use Rattle.soundness.proofs.most_late.Goals as goal

pub returns-then-rule-column : goal.returns-then-rule-column
returns-then-rule-column c =
    ap (λ (b : Bool). cond b 1 0) (sym c.if-rule-column.true)

pub returns-else-rule-column : goal.returns-else-rule-column
returns-else-rule-column c =
    ap (λ (b : Bool). cond b 1 0) (sym c.if-rule-column.false)
