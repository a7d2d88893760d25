-- `count_all`: what was counted, with the codes that are left, is all; and no stroke sends more than 4,294,967,296.
use mathlib.Core.Path.{◌≡◌}
use Prim.Native.Nat.{◌+◌, ◌*◌, ◌≤◌}
use lib.ListN.{drop, length}
use Rattle.traces.specs.Codes.{sent}
use Rattle.traces.specs.Stepping.{strokes_read}
use Rattle.traces.proofs.codes.count_all.Given as goal

abbrev pub invariant-loop-i : goal.invariant-loop-i
invariant-loop-i l = (l.count ≤ 4294967296 * l.i)
    × (l.count + length (sent l.repeating.keys (strokes_read (drop l.i l.strokes))) ≡ length (sent l.repeating.keys (strokes_read l.strokes)))
