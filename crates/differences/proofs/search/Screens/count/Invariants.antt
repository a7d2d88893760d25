-- `count`: what was counted and what is left to list are together the whole list.
use mathlib.Core.Path.{◌≡◌}
use Prim.Native.Nat.{◌+◌, ◌≤◌}
use lib.ListN.{length}
use Rattle.differences.specs.Differences.{differences}
use Rattle.differences.proofs.Laws.{list_from}
use Rattle.differences.proofs.search.Screens.count.Given as goal

abbrev pub invariant-loop-place : goal.invariant-loop-place
invariant-loop-place l = (l.n ≤ l.place) × (l.n + length (list_from l.place l.self.first.now l.self.second.now) ≡ length (differences l.self.first.now l.self.second.now))
