-- `marks::empty` meets its contract: a bare layer is empty, and the layer that is filled has 1,280 bytes.
use mathlib.Core.Path.{◌∙◌, ap}
use Prim.Native.Nat.{ℕ}
use lib.ListN.{replicate}
use Rattle.ground.proofs.marks.empty.Goals as goal

pub returns-then-frame : goal.returns-then-frame
returns-then-frame c =
    c.requires.empty c.if-frame.true

pub returns : goal.returns
returns c =
    c.fill.ensures ∙ ap (λ (n : ℕ). replicate n 0) c.requires.size
