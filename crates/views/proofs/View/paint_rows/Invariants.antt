-- `paint_rows`: after `row` turns the rows before it are painted; the view that is painted is the one that is asked for.
use mathlib.Core.Path.{◌≡◌}
use Prim.Native.Nat.{◌*◌}
use Rattle.views.specs.Panes.{seen}
use Rattle.views.specs.Painted.{painted}
use Rattle.views.proofs.View.paint_rows.Given as goal

abbrev pub invariant-loop-row : goal.invariant-loop-row
invariant-loop-row l = l.shown ≡ painted 0 (l.row * 80) (seen l.view l.cells) l.initial.shown
