-- `scroll_down`: the part comes home moved by a line.
use Prim.Native.Nat.{◌+◌, ◌-◌}
use native.Mathlib.Omega.{arith}
use Rattle.model.specs.Bytes.{scrolled_down}
use Rattle.store.proofs.Laws.{lent}
use Rattle.store.proofs.scroll_down.Goals as goal

pub returns : goal.returns
returns c =
    let a = c.args in
    lent a.from a.count (a.from + a.count - a.from) (scrolled_down a.width) a.cells.now c.scroll.ensures (omega arith)
