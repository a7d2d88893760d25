-- `copy_row`: after i turns i codes of the row are put; then the two codes behind them.
use mathlib.Core.Path.{◌≡◌}
use Rattle.model.specs.Bytes.{list_from, put}
use Rattle.copies.specs.Copy.{printed}
use Rattle.copies.proofs.copy_row.Given as goal

abbrev pub invariant-loop-i : goal.invariant-loop-i
invariant-loop-i l = l.printer ≡ put l.from (list_from (printed l.picture) l.at l.i) l.initial.printer
