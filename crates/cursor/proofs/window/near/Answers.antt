-- `window::near` meets its contract: each of its three answers is the nearest top that shows the cursor's line.
use native.Mathlib.Omega.{arith}
use borrow.Author.Rules.{rules}
use Rattle.cursor.proofs.Windows.{nearest_top}
use Rattle.cursor.proofs.window.near.Goals as goal

pub returns-then-place : goal.returns-then-place
returns-then-place c =
    nearest_top (search rules) (omega arith)

pub returns-then-place-frame : goal.returns-then-place-frame
returns-then-place-frame c =
    nearest_top (search rules) (omega arith)

pub returns : goal.returns
returns c =
    nearest_top (search rules) (omega arith)
