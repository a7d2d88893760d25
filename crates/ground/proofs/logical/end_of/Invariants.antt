-- `end_of`: every line from the first up to `end` runs on, so that both have the same end.
use mathlib.Core.Path.{◌≡◌}
use Prim.Native.Nat.{◌-◌, ◌≤◌}
use lib.ListN.{get_or}
use Rattle.model.specs.Marks.{end_of, mark_in}
use Rattle.ground.proofs.logical.end_of.Given as goal

abbrev pub invariant-loop-frame : goal.invariant-loop-frame
invariant-loop-frame l = (1 ≤ l.end) × ((l.end ≤ l.frame.lines) × (end_of (mark_in (get_or l.marks l.frame.screen 0)) l.frame.lines l.end ≡ end_of (mark_in (get_or l.marks l.frame.screen 0)) l.frame.lines l.line))

abbrev pub decreases-loop-frame : goal.decreases-loop-frame
decreases-loop-frame l = l.frame.lines - l.end
