-- `copy_many`: the bytes are taken up, then laid down.
use native.Mathlib.Omega.{arith}
use lib.ListN.{replicate}
use Rattle.store.proofs.Held.{held}
use Rattle.store.proofs.copy_many.Goals as goal

pub returns : goal.returns
returns c =
    let a = c.args in
    held a.count a.at a.from a.src.now (replicate 3840 0) a.dst.now c.copy_bytes.ensures c.copy_bytes-2.ensures (omega arith)
