-- `change_dot`: the byte of the dot is set to what `change` makes of it.
use Rattle.dots.proofs.Dots.{dot_made}
use Rattle.dots.proofs.dot.change_dot.Goals as goal

pub returns : goal.returns
returns c =
    let a = c.args in
    λ v e. dot_made a.function v a.h a.dots.now a.row c.change.ensures e
