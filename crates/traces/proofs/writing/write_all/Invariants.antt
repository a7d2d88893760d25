-- `write_all`: what stands, with the codes of the strokes that are left put behind it, is the whole.
use mathlib.Core.Path.{◌≡◌}
use Prim.Native.Nat.{◌+◌, ◌*◌, ◌≤◌}
use lib.ListN.{drop, length}
use Rattle.model.specs.Bytes.{put}
use Rattle.traces.specs.Codes.{codes_bytes, sent}
use Rattle.traces.specs.Stepping.{strokes_read}
use Rattle.traces.proofs.writing.write_all.Given as goal

abbrev pub invariant-loop-i : goal.invariant-loop-i
invariant-loop-i l = (put l.place (codes_bytes (sent l.repeating.keys (strokes_read (drop l.i l.strokes)))) l.output ≡ put 0 (codes_bytes (sent l.repeating.keys (strokes_read l.strokes))) l.initial.output)
    × ((l.place + 5 * length (sent l.repeating.keys (strokes_read (drop l.i l.strokes))) ≤ length l.initial.output) × (length l.output ≡ length l.initial.output))
