-- `lay`: after some turns the layer lies over the places before `place`, and the others, which are still to be read, stand as they were.
use mathlib.Core.Path.{◌∙◌, ◌≡◌, ap}
use Prim.Native.Nat.{◌+◌, ◌-◌, ℕ}
use native.Mathlib.Omega.{arith}
use mathlib.Core.List.{List}
use lib.ListN.{get_or, length}
use Rattle.model.specs.Bytes.{list_from}
use Rattle.model.proofs.ByteLaws.{length_list_from}
use Rattle.store.proofs.Laws.{put_ahead}
use Rattle.paint.specs.Shown.{laid, covered_by}
use Rattle.views.specs.Painted.{painted}
use Rattle.views.proofs.Painted.{painted-more, painted-none}
use Rattle.paint.proofs.layer.lay.Goals as goal

pub loop-place-init : goal.loop-place-init
loop-place-init c =
    let none : c.args.first - c.args.first ≡ 0 = omega arith in
    rw none (painted-none _ _ _)

pub loop-place-preserved : goal.loop-place-preserved
unfolding laid painted
loop-place-preserved c =
    let at = c.loop-place in
    let a = c.args in
    let f = laid a.layer.now (λ (p : ℕ). get_or a.shown.now p 0) in
    let n = at.place - a.first in
    let size : length (list_from f a.first n) ≡ n = length_list_from f a.first n in
    let here : a.first + n ≡ at.place = omega arith in
    let next : at.place + 1 - a.first ≡ n + 1 = omega arith in
    let read : get_or at.shown at.place 0 ≡ get_or a.shown.now at.place 0 =
    ap (λ (l : List ℕ). get_or l at.place 0) at.invariant ∙ put_ahead a.first (list_from f a.first n) a.shown.now (omega arith) at.place (omega arith)
    in
    let v = c.over.ensures ∙ ap (covered_by (get_or a.layer.now at.place 0) (get_or a.layer.now (640 + at.place) 0)) read in
    rw next (painted-more a.first f a.shown.now n at.invariant (omega arith) (v ∙ ap f (omega arith)) (omega arith))

pub returns : goal.returns
returns c =
    let end : c.loop-place.place ≡ 640 = omega arith in
    rw end at c.loop-place.invariant
