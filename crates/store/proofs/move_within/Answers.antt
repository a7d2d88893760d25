-- `move_within`: the bytes are taken up, then laid down.
use native.Mathlib.Omega.{arith}
use lib.ListN.{replicate}
use Rattle.store.proofs.Held.{held}
use Rattle.store.proofs.move_within.Goals as goal

pub returns : goal.returns
returns c =
    let a = c.args in
    held a.count a.from a.to a.region.now (replicate 3840 0) a.region.now c.copy_bytes.ensures c.copy_bytes-2.ensures (omega arith)
