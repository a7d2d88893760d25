-- `lay`: the tick's four bytes, then the key.
use mathlib.Core.Path.{◌∙◌}
use native.Mathlib.Omega.{arith}
use Rattle.traces.proofs.Laying.{five_put, tick_four}
use Rattle.traces.proofs.writing.lay.Goals as goal

pub returns : goal.returns
returns c =
    let a = c.args in
    five_put a.place _ a.tick a.key a.output.now (c.copy_from_slice.ensures.after ∙ c.to_le_bytes.ensures ∙ tick_four a.tick (omega arith)) (omega arith) (omega arith)
