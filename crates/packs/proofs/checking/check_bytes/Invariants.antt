-- `check_bytes`: each test of the whole pack is what was found so far and the same test of what is left (proofs/Walking); then by the four tests, in their order.
use mathlib.Core.Path.{◌≡◌}
use Prim.Native.Nat.{◌-◌}
use mathlib.Core.Bool.{◌&&◌}
use lib.ListN.{drop, length}
use Rattle.model.specs.Records.{Record, all?, records_of}
use Rattle.calls.specs.Packs.{known?}
use Rattle.calls.specs.Calls.{known_in, sendable, sendable_in}
use Rattle.packs.proofs.Walking.{Whole}
use Rattle.packs.proofs.checking.check_bytes.Given as goal

abbrev pub invariant-loop-at : goal.invariant-loop-at
invariant-loop-at l = Whole l.pack l.at × ((known_in l.pack ≡ (l.known && all? known? (records_of (drop l.at l.pack)))) × (sendable_in l.pack ≡ (l.few && all? (λ (r : Record). sendable r.body) (records_of (drop l.at l.pack)))))

abbrev pub decreases-loop-at : goal.decreases-loop-at
decreases-loop-at l = length l.pack - l.at
