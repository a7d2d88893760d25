-- `window::hold` meets its contract: what lies beyond the range is its end.
use native.Mathlib.Omega.{arith}
use Rattle.cursor.proofs.Windows.{held_top}
use Rattle.cursor.proofs.window.hold.Goals as goal

pub returns : goal.returns
returns c =
    held_top _ c.requires (omega arith)
