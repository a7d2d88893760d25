-- The loop's invariant (proofs/Watching): it is serving's loop, and what is left of the message gives the same shown screen. Each way through the loop is one
-- turn of it.
use Prim.Native.Nat.{◌-◌}
use lib.ListN.{length}
use Rattle.short_serving.proofs.Watching.{Watch}
use Rattle.short_serving.proofs.serve_items.Given as goal

abbrev pub invariant-loop-at : goal.invariant-loop-at
invariant-loop-at l = Watch l.message l.initial.cells l.initial.layer l.initial.dots l.initial.printer l.initial.shown l.initial.s l.cells l.layer l.dots l.printer l.shown l.s l.place l.marks l.frame l.counts l.wide l.at

abbrev pub decreases-loop-at : goal.decreases-loop-at
decreases-loop-at l = length l.message - l.at
