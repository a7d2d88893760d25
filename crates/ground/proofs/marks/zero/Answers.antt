-- `marks::zero` meets its contract: the part comes home filled with 0.
use Prim.Native.Nat.{◌+◌, ◌-◌}
use native.Mathlib.Omega.{arith}
use borrow.Author.Rules.{rules}
use Rattle.store.proofs.Laws.{lent_filled}
use Rattle.ground.proofs.marks.zero.Goals as goal

pub returns : goal.returns
returns c =
    let a = c.args in
    lent_filled a.from a.count (a.from + a.count - a.from) 0 a.layer.now c.fill.ensures (omega arith) (search rules)
