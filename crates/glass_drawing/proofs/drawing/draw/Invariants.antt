-- `draw` meets its contract: in each turn, what is drawn, with what is left to be drawn behind it, is the whole; what a terminal shows then is
-- Seen's law.
use mathlib.Core.Path.{◌≡◌}
use Prim.Native.Nat.{◌*◌, ◌-◌, ◌≤◌}
use mathlib.Core.List.{◌++◌}
use lib.ListN.{length}
use Rattle.glass_drawing.specs.Drawing.{bytes_of, strokes, strokes_from}
use Rattle.glass_drawing.proofs.drawing.draw.Given as goal

abbrev pub invariant-loop-p : goal.invariant-loop-p
invariant-loop-p l = (length l.drawn ≤ 8 * l.p) × (l.drawn ++ bytes_of (strokes_from l.old l.new l.p (640 - l.p)) ≡ bytes_of (strokes l.old l.new))
