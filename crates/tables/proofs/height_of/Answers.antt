-- `tables::height_of` meets its contract by the test of its branch: the rows of text, or twice as many.
use mathlib.Core.Path.{◌∙◌, sym}
use native.Mathlib.Omega.{arith}
use Rattle.model.proofs.KeyLaws.{height_one, height_two}
use Rattle.tables.proofs.height_of.Goals as goal

pub overflow_mul-result : goal.overflow_mul-result
overflow_mul-result c =
    omega arith

pub returns-then-mode-eq1 : goal.returns-then-mode-eq1
returns-then-mode-eq1 c s m d =
    omega (arith, height_two s (m ∙ c.if-mode-eq1.true), c.text_rows-rows.ensures.0 s d)

pub returns-else-mode-eq1 : goal.returns-else-mode-eq1
returns-else-mode-eq1 c s m d =
    c.text_rows-rows.ensures.0 s d ∙ sym (height_one s (λ z. c.if-mode-eq1.false (sym m ∙ z)))
