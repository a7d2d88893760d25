-- `fill`: after i turns the first i bytes are `value`, and the others stand as they were.
use mathlib.Core.Path.{◌∙◌, ◌≡◌, refl, sym}
use native.Mathlib.Omega.{arith}
use lib.ListN.{length, length-replicate, replicate}
use Rattle.store.proofs.Laws.{put_all, put-more, put-none, replicate_more}
use Rattle.store.proofs.fill.Goals as goal

pub loop-i-init : goal.loop-i-init
loop-i-init c =
    sym (put-none _ _)

pub loop-i-preserved : goal.loop-i-preserved
loop-i-preserved c =
    let a = c.args in
    let at = c.loop-i in
    put-more 0 (replicate at.i a.value) a.value a.region.now at.invariant (simp length-replicate (omega arith)) refl (replicate_more at.i a.value) (omega arith)

pub returns : goal.returns
returns c =
    let a = c.args in
    let at = c.loop-i in
    let end : at.i ≡ length a.region.now = omega arith in
    at.invariant ∙ rw end (put_all (replicate (length a.region.now) a.value) a.region.now (simp length-replicate))
