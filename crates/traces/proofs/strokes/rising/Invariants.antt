-- `rising`: from the last tick on, what is left never falls exactly if the trace never does.
use mathlib.Core.Path.{◌≡◌}
use lib.ListN.{drop}
use Rattle.traces.specs.Strokes.{rising?}
use Rattle.traces.specs.Stepping.{strokes_read}
use Rattle.traces.proofs.strokes.rising.Given as goal

abbrev pub invariant-loop-bytes : goal.invariant-loop-bytes
invariant-loop-bytes l = rising? 0 (strokes_read l.strokes) ≡ rising? l.last (strokes_read (drop l.bytes-index l.strokes))
