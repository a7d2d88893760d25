-- `row_of`: in each turn the first letters stand, and behind the last of them nothing is left of what stood at first.
use mathlib.Core.Path.{◌≡◌}
use lib.ListN.{length}
use Rattle.model.specs.Bytes.{put}
use Rattle.glass_drawing.specs.Curve.{letters_to}
use Rattle.glass_drawing.proofs.curve.row_of.Given as goal

abbrev pub invariant-loop-column : goal.invariant-loop-column
invariant-loop-column l = (length l.initial.bytes ≡ 240) × (length l.bytes ≡ 240) × (l.bytes ≡ put 0 (letters_to l.dots l.row l.column) l.initial.bytes)
