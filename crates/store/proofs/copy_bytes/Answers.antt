-- `copy_bytes`: after i turns the first i bytes of the part of `src` are put, and the others stand as they were.
use mathlib.Core.Path.{◌≡◌, sym}
use native.Mathlib.Omega.{arith}
use lib.ListN.{drop, get_or, length-drop, length-take, take}
use lib.Seq.{get_or-drop}
use Rattle.store.proofs.Laws.{put-more, put-none, take_more}
use Rattle.store.proofs.copy_bytes.Goals as goal

pub loop-i-init : goal.loop-i-init
loop-i-init c =
    sym (put-none _ _)

pub loop-i-preserved : goal.loop-i-preserved
loop-i-preserved c =
    let a = c.args in
    let at = c.loop-i in
    let part = drop a.at a.src.now in
    put-more a.from (take at.i part) (get_or part at.i 0) a.dst.now at.invariant (simp (length-take, length-drop) (omega arith)) (sym (get_or-drop a.at a.src.now at.i 0)) (take_more part at.i (simp length-drop (omega arith))) (omega arith)

pub returns : goal.returns
returns c =
    let end : c.loop-i.i ≡ c.args.count = omega arith in
    rw end at c.loop-i.invariant
