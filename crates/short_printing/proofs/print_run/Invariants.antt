-- `print_run`: the bytes from `at` up to i were printed and seen, part by part.
use Prim.Native.Nat.{◌-◌, ◌≤◌}
use Rattle.short_printing.proofs.Seeing.{SeenAlong}
use Rattle.short_printing.proofs.print_run.Given as goal

abbrev pub invariant-loop-i : goal.invariant-loop-i
invariant-loop-i l = (l.i ≤ l.end) × SeenAlong l.message l.frame l.secret l.initial.i l.initial.p l.initial.cells l.initial.layer l.initial.marks l.initial.shown l.i l.p l.wide l.cells l.layer l.marks l.shown

abbrev pub decreases-loop-i : goal.decreases-loop-i
decreases-loop-i l = l.end - l.i
