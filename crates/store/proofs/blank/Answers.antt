-- `blank`: the part comes home filled with 32.
use Prim.Native.Nat.{◌+◌, ◌-◌}
use native.Mathlib.Omega.{arith}
use Rattle.model.specs.Bytes.{blanked}
use Rattle.store.proofs.Laws.{lent}
use Rattle.store.proofs.blank.Goals as goal

pub returns : goal.returns
unfolding blanked
returns c =
    let a = c.args in
    lent a.from a.count (a.from + a.count - a.from) blanked a.cells.now c.fill.ensures (omega arith)
