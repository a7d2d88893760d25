-- `carry` meets its contract: the marks outside the region are joined with those in it, moved by one.
use mathlib.Core.Path.{refl}
use native.Mathlib.Omega.{arith}
use Rattle.ground.proofs.LogicalLaws.{down_made, up_made}
use Rattle.ground.proofs.logical.carry.Goals as goal

pub returns-in-Down : goal.returns-in-Down
returns-in-Down c =
    let a = c.args in
    rw c.in-Down.is (down_made a.from a.count (omega arith) (omega arith) refl c.moved.ensures c.lowest.ensures refl c.lowest-in-Down.ensures c.moved-in-Down.ensures)

pub returns-in-Up : goal.returns-in-Up
returns-in-Up c =
    let a = c.args in
    rw c.in-Up.is (up_made a.from a.count (omega arith) (omega arith) refl c.moved.ensures c.lowest.ensures refl c.lowest-in-Up.ensures c.moved-in-Up.ensures)
