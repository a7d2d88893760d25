-- The loop's invariant (proofs/Turns): what is left of the message gives the same end, and the frame and the place are those of what
-- stands. Each way through the loop is one turn of it.
use Prim.Native.Nat.{◌-◌}
use lib.ListN.{length}
use Rattle.serving.proofs.Turns.{Loop}
use Rattle.serving.proofs.serve_items.Given as goal

abbrev pub invariant-loop-at : goal.invariant-loop-at
invariant-loop-at l = Loop l.message l.from l.initial.counts l.initial.cells l.initial.layer l.initial.dots l.initial.printer l.initial.s l.cells l.layer l.dots l.printer l.s l.place l.marks l.frame l.counts l.at

abbrev pub decreases-loop-at : goal.decreases-loop-at
decreases-loop-at l = length l.message - l.at
