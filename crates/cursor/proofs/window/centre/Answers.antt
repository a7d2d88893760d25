-- `window::centre` meets its contract: what it holds in range is the cursor's line less H/2, or 0.
use native.Mathlib.Omega.{arith}
use Rattle.cursor.proofs.Windows.{centred_top}
use Rattle.cursor.proofs.window.centre.Goals as goal

pub returns : goal.returns
returns c =
    centred_top c.hold.ensures (omega arith)
