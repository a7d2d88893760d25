-- `store` meets its contract: the cursor's cell is one of the screen's, and the layer is emptied where it is shown.
use native.Mathlib.Omega.{arith}
use borrow.Author.Rules.{rules}
use Rattle.ground.proofs.Cells.{cell_room}
use Rattle.cursor.proofs.Moves.{stored_acts}
use Rattle.cursor.proofs.store.Goals as goal

pub bounds-cells-at : goal.bounds-cells-at
bounds-cells-at c =
    omega (arith, cell_room c.requires.stands)

pub returns : goal.returns
returns c =
    stored_acts (search rules) _ c.cell-at.ensures c.shown.ensures c.empty_at.ensures
