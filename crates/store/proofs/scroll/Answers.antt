-- `scroll`: the kept part is moved, and the line that it leaves is blanked.
use mathlib.Core.Path.{◌∙◌, refl}
use Prim.Native.Nat.{◌-◌}
use native.Mathlib.Omega.{arith}
use lib.ListN.{length}
use Rattle.store.proofs.Scrolls.{down_made, up_made}
use Rattle.store.proofs.scroll.Goals as goal

pub returns-then-down : goal.returns-then-down
returns-then-down c =
    let a = c.args in
    rw c.if-down.true (c.blank.ensures ∙ down_made a.width (length a.region.now - a.width) a.region.now c.move_within.ensures refl (omega arith))

pub returns-else-down : goal.returns-else-down
returns-else-down c =
    let a = c.args in
    rw c.if-down.false (c.blank-else-down.ensures ∙ up_made a.width (length a.region.now - a.width) a.region.now c.move_within-else-down.ensures refl (omega arith))
