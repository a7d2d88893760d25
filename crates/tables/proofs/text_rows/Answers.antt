-- `tables::text_rows` meets its contract by the test of its branch.
use mathlib.Core.Path.{◌∙◌, sym}
use native.Mathlib.Omega.{arith}
use Rattle.model.proofs.KeyLaws.{rows_plain, rows_shown}
use Rattle.tables.proofs.text_rows.Goals as goal

pub returns-then-display-eq0 : goal.returns-then-display-eq0
returns-then-display-eq0 c =
    (λ s e. sym (rows_shown s (e ∙ c.if-display-eq0.true)), omega arith)

pub returns-else-display-eq0 : goal.returns-else-display-eq0
returns-else-display-eq0 c =
    (λ s e. sym (rows_plain s (λ z. c.if-display-eq0.false (sym e ∙ z))), omega arith)
