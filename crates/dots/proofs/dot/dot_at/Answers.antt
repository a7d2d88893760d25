-- `dot_at`: the quotient by the dot's weight, which is not 0.
use mathlib.Core.Path.{ap}
use native.Mathlib.Omega.{arith}
use lib.ListN.{get_or}
use Rattle.model.specs.Dot.{bit_of, byte_of, dot_at}
use Rattle.dots.proofs.Weights.{weight_pos}
use Rattle.dots.proofs.dot.dot_at.Goals as goal

pub nonzero_div-result-2 : goal.nonzero_div-result-2
nonzero_div-result-2 c =
    omega (arith, c.weight_of.ensures, weight_pos c.args.h)

pub returns : goal.returns
unfolding dot_at
returns c =
    let a = c.args in
    (ap (λ w. bit_of w (get_or a.dots.now (byte_of a.v a.h) 0)) c.weight_of.ensures, omega arith)
