-- `play_all`: with each record at least the four bytes of its head are taken off the 1,000,000 that a recording may have.
use Prim.Native.Nat.{◌*◌, ◌+◌, ◌≤◌}
use Rattle.recording.proofs.play_all.Given as goal

abbrev pub invariant-loop-number : goal.invariant-loop-number
invariant-loop-number g l = 4 * l.number + l.left ≤ 1000004
