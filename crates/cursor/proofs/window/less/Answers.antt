-- `window::less` meets its contract: what it holds in range is the top less the step, or 0.
use native.Mathlib.Omega.{arith}
use Rattle.cursor.proofs.Windows.{earlier_top}
use Rattle.cursor.proofs.window.less.Goals as goal

pub returns : goal.returns
returns c =
    earlier_top c.hold.ensures (omega arith)
