-- `unmark` meets its contract: what lies above the lines and what lies below them is joined.
use mathlib.Core.Path.{refl}
use native.Mathlib.Omega.{arith}
use Rattle.ground.proofs.LogicalLaws.{unmark_made}
use Rattle.ground.proofs.logical.unmark.Goals as goal

pub returns : goal.returns
returns c =
    let a = c.args in unmark_made a.from a.to (omega arith) (omega arith) (omega arith) refl c.moved.ensures c.lowest.ensures refl
