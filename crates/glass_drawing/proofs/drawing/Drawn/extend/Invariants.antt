-- `extend`: what stands, with the bytes that are left put behind it, is the whole.
use mathlib.Core.Path.{◌≡◌}
use Prim.Native.Nat.{◌+◌}
use mathlib.Core.List.{◌++◌}
use lib.ListN.{drop, length}
use Rattle.glass_drawing.proofs.drawing.Drawn.extend.Given as goal

abbrev pub invariant-loop-byte : goal.invariant-loop-byte
invariant-loop-byte l = (l.self ++ drop l.byte-index l.bytes ≡ l.initial.self ++ l.bytes) × (length l.self ≡ length l.initial.self + l.byte-index)
