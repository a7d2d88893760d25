-- `copy_bytes`: after i turns the first i bytes of the part of `src` are put, and the others stand as they were.
use mathlib.Core.Path.{◌≡◌}
use lib.ListN.{drop, take}
use Rattle.model.specs.Bytes.{put}
use Rattle.store.proofs.copy_bytes.Given as goal

abbrev pub invariant-loop-i : goal.invariant-loop-i
invariant-loop-i l = l.dst ≡ put l.from (take l.i (drop l.at l.src)) l.initial.dst
