-- `copy_block`: the bytes are taken up, then laid down.
use native.Mathlib.Omega.{arith}
use lib.ListN.{replicate}
use Rattle.store.proofs.Held.{held}
use Rattle.store.proofs.copy_block.Goals as goal

pub returns : goal.returns
returns c =
    let a = c.args in
    held 16 a.at a.from a.src.now (replicate 16 0) a.dst.now c.copy_bytes.ensures c.copy_bytes-2.ensures (omega arith)
