-- `window::more` meets its contract: what it holds in range is the top and the step.
use native.Mathlib.Omega.{arith}
use Rattle.cursor.proofs.Windows.{later_top}
use Rattle.cursor.proofs.window.more.Goals as goal

pub returns : goal.returns
returns c =
    later_top c.hold.ensures (omega arith)
