-- `kind_at`: the two bytes behind them.
use native.Mathlib.Omega.{arith}
use Rattle.records.proofs.Laws.{kind_two}
use Rattle.records.proofs.kind_at.Goals as goal

pub returns : goal.returns
returns c =
    let a = c.args in
    omega (arith, c.from_le_bytes.ensures, kind_two a.bytes.now a.at)
