-- `block_prints`: the loop's test is that of the first k bytes of the block.
use mathlib.Core.Path.{◌≡◌}
use Prim.Native.Nat.{◌≤◌}
use Rattle.runs.specs.Run.{all_print?}
use Rattle.runs.proofs.block_prints.Given as goal

abbrev pub invariant-loop-k : goal.invariant-loop-k
invariant-loop-k l = (l.k ≤ l.size) × (l.all ≡ all_print? l.message l.at l.k)
