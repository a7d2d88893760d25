-- `paint_row`: the left pane, the gap's code and the right pane, one behind the other, are what the view shows.
use native.Mathlib.Omega.{arith}
use Rattle.views.proofs.Runs.{row_inside, row_made}
use Rattle.views.proofs.View.paint_row.Goals as goal

pub start-requires : goal.start-requires
start-requires c =
    row_inside c.args.self.left c.args.row c.args.self.rows (omega arith) c.requires.framed.0.left_inside

pub start-requires-2 : goal.start-requires-2
start-requires-2 c =
    row_inside c.args.self.right c.args.row c.args.self.rows (omega arith) c.requires.framed.0.right_inside

pub returns : goal.returns
returns c =
    let a = c.args in
    row_made a.self c.requires.framed.0 a.cells.now c.told-cells a.row a.shown.now c.start.ensures c.start-2.ensures
    (omega arith) (omega arith) c.copy_in.ensures c.fill.ensures c.copy_in-2.ensures
