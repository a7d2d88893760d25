-- `end_of`: from the tick last passed on, what is left ends the press where the strokes behind it do.
use mathlib.Core.Path.{◌≡◌}
use lib.ListN.{drop}
use Rattle.traces.specs.Codes.{end_of}
use Rattle.traces.specs.Stepping.{strokes_read}
use Rattle.traces.proofs.codes.end_of.Given as goal

abbrev pub invariant-loop-bytes : goal.invariant-loop-bytes
invariant-loop-bytes l = end_of l.key l.tick (strokes_read l.behind) ≡ end_of l.key l.last (strokes_read (drop l.bytes-index l.behind))
