-- `lay_every`: what stands, with the codes that are left put behind it, is the whole; four bytes hold each tick that is left.
use mathlib.Core.Path.{◌≡◌}
use Prim.Native.Nat.{◌+◌, ◌*◌, ◌-◌}
use lib.ListN.{length}
use Rattle.model.specs.Bytes.{put}
use Rattle.traces.specs.Codes.{codes_bytes, every_from}
use Rattle.traces.specs.Stepping.{EachHeld}
use Rattle.traces.proofs.writing.lay_every.Given as goal

abbrev pub invariant-loop : goal.invariant-loop
invariant-loop l = (put l.at (codes_bytes (every_from l.key l.interval l.tick (l.count - l.counter))) l.output ≡ put l.place (codes_bytes (every_from l.key l.interval l.first l.count)) l.initial.output)
    × ((l.at + 5 * (l.count - l.counter) ≡ l.place + 5 * l.count) × ((length l.output ≡ length l.initial.output) × EachHeld l.tick l.interval (l.count - l.counter)))
