-- `all` is the test of the bytes that were looked at.
use mathlib.Core.Path.{◌≡◌}
use lib.ListN.{drop, take}
use Rattle.model.specs.Line.{zeros?}
use Rattle.unfinished.proofs.clean.Given as goal

abbrev pub invariant-loop-i : goal.invariant-loop-i
invariant-loop-i l = l.all ≡ zeros? (drop l.held (take l.i l.byte-items))
