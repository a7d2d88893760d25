-- The loop's invariant (proofs/Turns): what was sent and what is left are together the whole call. A turn is one message more.
use Prim.Native.Nat.{◌-◌}
use lib.ListN.{length}
use Rattle.packs.proofs.Turns.{Loop}
use Rattle.packs.proofs.sending.send_each.Given as goal

abbrev pub invariant-loop-at : goal.invariant-loop-at
invariant-loop-at l = Loop l.initial.s l.pack l.initial.cells l.initial.layer l.initial.dots l.initial.shown l.initial.printer l.cells l.layer l.shown l.dots l.printer l.s l.answer l.found l.number l.at

abbrev pub decreases-loop-at : goal.decreases-loop-at
decreases-loop-at l = length l.pack - l.at
