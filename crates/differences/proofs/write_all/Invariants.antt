-- `write_all`: at the head of a turn k records are stored, and the search goes on behind the k-th find.
use Rattle.std.proofs.Common.{◌≡◌}
use Rattle.differences.specs.Differences.{differences}
use Rattle.differences.proofs.Reaching.{reached}
use Rattle.differences.proofs.Storing.{stores}
use Rattle.differences.proofs.write_all.Given as goal

abbrev pub invariant-loop-k : goal.invariant-loop-k
invariant-loop-k l = (l.place ≡ reached l.k l.screens.first.now l.screens.second.now) × (l.list ≡ stores l.k (differences l.screens.first.now l.screens.second.now) l.fn.list)
