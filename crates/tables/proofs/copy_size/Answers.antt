-- `tables::copy_size` meets its contract: by the mode.
use borrow.Author.Tests.{eq-eqb, ne_eqb}
use Rattle.model.specs.Picture.{copy_size_of}
use Rattle.tables.proofs.copy_size.Goals as goal

pub returns-then-mode-eq3 : goal.returns-then-mode-eq3
unfolding copy_size_of
returns-then-mode-eq3 c =
    rw (eq-eqb _ 3 c.if-mode-eq3.true)

pub returns-else-mode-eq3 : goal.returns-else-mode-eq3
unfolding copy_size_of
returns-else-mode-eq3 c =
    rw (ne_eqb _ 3 c.if-mode-eq3.false)
