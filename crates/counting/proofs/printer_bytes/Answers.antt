-- By the test: a copy takes its size, any other sequence nothing.
use mathlib.Core.Path.{◌∙◌, sym}
use Rattle.counting.proofs.printer_bytes.Goals as goal

pub returns-then-is_copy : goal.returns-then-is_copy
returns-then-is_copy c =
    rw (sym c.is_copy.ensures ∙ c.if-is_copy.true) c.copy_size.ensures

pub returns-else-is_copy : goal.returns-else-is_copy
returns-else-is_copy c =
    rw (sym c.is_copy.ensures ∙ c.if-is_copy.false)
