-- `first_difference`: no place that was looked at differs, so the search from here finds what the search from the start does; a row's end is
-- the next row's start.
use mathlib.Core.Path.{◌≡◌}
use Prim.Native.Nat.{◌+◌, ◌*◌}
use Rattle.std.specs.Prelude.{None}
use Rattle.differences.proofs.Laws.{place_from}
use Rattle.differences.proofs.first_difference.Given as goal

abbrev pub invariant-loop-column : goal.invariant-loop-column
invariant-loop-column l = (l.found ≡ None) × (place_from (l.row * 80 + l.column) l.screens.first.now l.screens.second.now ≡ place_from 0 l.screens.first.now l.screens.second.now)

abbrev pub invariant-rows : goal.invariant-rows
invariant-rows l = (l.found ≡ None) × (place_from (l.row * 80) l.screens.first.now l.screens.second.now ≡ place_from 0 l.screens.first.now l.screens.second.now)
