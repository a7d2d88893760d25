-- `uncut`: what is left of the bytes is cut exactly if all of them are.
use mathlib.Core.Path.{◌≡◌}
use lib.ListN.{length}
use Rattle.model.specs.Records.{uncut?}
use Rattle.records.proofs.uncut.Given as goal

abbrev pub invariant-loop-rest : goal.invariant-loop-rest
invariant-loop-rest l = uncut? l.bytes ≡ uncut? l.rest

abbrev pub decreases-loop-rest : goal.decreases-loop-rest
decreases-loop-rest l = length l.rest
