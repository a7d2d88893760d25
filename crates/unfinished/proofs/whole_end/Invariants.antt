-- What is behind the items that were gone over ends where all of it does.
use mathlib.Core.Path.{◌≡◌}
use Prim.Native.Nat.{◌+◌, ◌-◌, ◌≤◌}
use lib.ListN.{length}
use Rattle.unfinished.specs.Whole.{whole_end}
use Rattle.unfinished.proofs.whole_end.Given as goal

abbrev pub invariant-loop-length : goal.invariant-loop-length
invariant-loop-length l = (length l.rest ≤ length l.bytes) × (length l.bytes - length l.rest + whole_end l.rest ≡ whole_end l.bytes)

abbrev pub decreases-loop-length : goal.decreases-loop-length
decreases-loop-length l = length l.rest
