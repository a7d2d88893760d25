-- `seek`: what was looked at does not differ, so the search from here finds what the search from the start does.
use mathlib.Core.Path.{◌≡◌}
use Rattle.differences.proofs.Laws.{place_from}
use Rattle.differences.proofs.search.Screens.seek.Given as goal

abbrev pub invariant-loop-place : goal.invariant-loop-place
invariant-loop-place l = place_from l.place l.self.first.now l.self.second.now ≡ place_from l.from l.self.first.now l.self.second.now
