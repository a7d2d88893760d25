-- `scroll_up`: the part comes home moved by a line.
use Prim.Native.Nat.{◌+◌, ◌-◌}
use native.Mathlib.Omega.{arith}
use Rattle.model.specs.Bytes.{scrolled_up}
use Rattle.store.proofs.Laws.{lent}
use Rattle.store.proofs.scroll_up.Goals as goal

pub returns : goal.returns
returns c =
    let a = c.args in
    lent a.from a.count (a.from + a.count - a.from) (scrolled_up a.width) a.cells.now c.scroll.ensures (omega arith)
