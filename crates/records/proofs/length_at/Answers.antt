-- `length_at`: the first two bytes.
use native.Mathlib.Omega.{arith}
use Rattle.model.specs.Records.{length_in}
use Rattle.records.proofs.Laws.{two_at}
use Rattle.records.proofs.length_at.Goals as goal

pub returns : goal.returns
unfolding length_in
returns c =
    let a = c.args in
    omega (arith, c.from_le_bytes.ensures, two_at a.bytes.now a.at)
