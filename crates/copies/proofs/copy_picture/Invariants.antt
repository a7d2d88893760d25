-- `copy_picture`: after `row` turns the rows before it are in the buffer.
use mathlib.Core.Path.{◌≡◌}
use Prim.Native.Nat.{ℕ}
use lib.ListN.{get_or}
use Rattle.model.specs.Bytes.{put}
use Rattle.model.specs.Picture.{copied_rows}
use Rattle.copies.proofs.copy_picture.Given as goal

abbrev pub invariant-loop-row : goal.invariant-loop-row
invariant-loop-row l = l.printer ≡ put l.from (copied_rows (λ (p : ℕ). get_or l.picture p 0) 0 l.row) l.initial.printer
