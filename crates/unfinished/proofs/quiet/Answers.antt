-- Where none waits, the test of a line is that of the count and of twelve zeros.
use mathlib.Core.Path.{◌∙◌, ◌≡◌, ap}
use mathlib.Core.Bool.{Bool, ◌&&◌}
use lib.Dec.{eqb, leb}
use lib.ListN.{length}
use Rattle.unfinished.proofs.Arrays.{unmapped}
use Rattle.unfinished.proofs.QuietLaws.{quiet_by, zeros_equal}
use Rattle.unfinished.proofs.quiet.Goals as goal

pub returns : goal.returns
returns c =
    let a = c.args in
    let e : length a.waiting ≡ 12 = search (unmapped, c.well_formed) in
    ap (λ (t : Bool). eqb a.held 0 && leb a.count 1000000000 && t) (c.eq.ensures ∙ zeros_equal 12 a.waiting e) ∙ quiet_by a.waiting a.held a.count
