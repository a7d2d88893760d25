-- `fill`: after i turns the first i bytes are `value`, and the others stand as they were.
use mathlib.Core.Path.{◌≡◌}
use lib.ListN.{replicate}
use Rattle.model.specs.Bytes.{put}
use Rattle.store.proofs.fill.Given as goal

abbrev pub invariant-loop-i : goal.invariant-loop-i
invariant-loop-i l = l.region ≡ put 0 (replicate l.i l.value) l.initial.region
