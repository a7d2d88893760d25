-- Each of the three tests.
use mathlib.Core.Path.{◌≡◌}
use mathlib.Core.Bool.{Bool, ◌&&◌, true}
use lib.Dec.{eqb, leb}
use borrow.Author.Tests.{eqb-true, leb-true}
use Rattle.model.proofs.Tests.{and_left, and_right}
use Rattle.stream_parts.proofs.plain.Goals as goal

pub returns : goal.returns
returns c =
    λ e.
    let none : Bool = eqb c.args.held 0 in
    let few : Bool = leb c.args.length 4096 in
    let near : Bool = leb c.args.count 999995904 in
    let both : (none && few) ≡ true = and_left (none && few) near e in
    (eqb-true _ _ (and_left none few both), (leb-true _ _ (and_right none few both), leb-true _ _ (and_right (none && few) near e)))
