-- What the test of the stores says of each.
use mathlib.Core.Path.{◌≡◌}
use mathlib.Core.Bool.{Bool, ◌&&◌, true}
use lib.ListN.{length}
use lib.Dec.{eqb}
use borrow.Author.Tests.{eqb-true}
use Rattle.calls.specs.Calls.{Terminal, sized}
use Rattle.model.proofs.Tests.{and_left, and_right}

-- the sizes that number 1 is about
pub sizes : (t : Terminal) → sized t ≡ true → (length t.state.cells ≡ 3840) × (length t.state.layer ≡ 1280) × (length t.state.dots ≡ 3840) × (length t.shown ≡ 640)
unfolding sized
sizes t e =
    let c : Bool = eqb (length t.state.cells) 3840 in
    let l : Bool = eqb (length t.state.layer) 1280 in
    let d : Bool = eqb (length t.state.dots) 3840 in
    let s : Bool = eqb (length t.shown) 640 in
    let k : (l && (d && s)) ≡ true = and_right c (l && (d && s)) e in
    let n : (d && s) ≡ true = and_right l (d && s) k in
    (eqb-true _ _ (and_left c (l && (d && s)) e), eqb-true _ _ (and_left l (d && s) k), eqb-true _ _ (and_left d s n), eqb-true _ _ (and_right d s n))
