-- `print_run`: the bytes from `at` up to i were printed, part by part.
use Prim.Native.Nat.{◌-◌, ◌≤◌}
use Rattle.runs.proofs.Runs.{Along}
use Rattle.runs.proofs.print_run.Given as goal

abbrev pub invariant-loop-i : goal.invariant-loop-i
invariant-loop-i l = (l.i ≤ l.end) × Along l.message l.frame l.initial.i l.initial.p l.initial.cells l.initial.layer l.initial.marks l.i l.p l.cells l.layer l.marks

abbrev pub decreases-loop-i : goal.decreases-loop-i
decreases-loop-i l = l.end - l.i
