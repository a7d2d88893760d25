-- `copy_in`: after some turns the first i bytes of the part of `src` are put; the last block reaches the end.
use mathlib.Core.Path.{◌∙◌, ◌≡◌, ap, refl, sym}
use Prim.Native.Nat.{◌+◌, ◌-◌, ℕ}
use native.Mathlib.Omega.{arith}
use lib.ListN.{drop, take}
use borrow.Author.Rules.{rules}
use Rattle.model.specs.Bytes.{put}
use Rattle.store.proofs.Laws.{put-none}
use Rattle.store.proofs.Held.{block}
use Rattle.store.proofs.copy_in.Goals as goal
use Rattle.store.proofs.copy_in.Goals.{else-loop-i-test, then-loop-i-test+else-last-i-gt16}

pub loop-i-init : goal.loop-i-init
loop-i-init c =
    (omega arith, (refl, sym (put-none _ _)))

pub loop-i-preserved : goal.loop-i-preserved
loop-i-preserved c =
    let a = c.args in
    (omega arith, (search rules, block a.from a.at c.loop-i.i c.loop-i.i 16 a.src.now a.dst.now c.loop-i.invariant.1.1 c.copy_block.ensures (omega arith) (omega arith) (omega arith) (omega arith)))

pub returns : goal.returns
returns c =
    let a = c.args in
    let at = c.loop-i in
    let end : a.count - 16 + 16 ≡ a.count = omega arith in
    let whole = ap (λ (n : ℕ). put a.from (take n (drop a.at a.src.now)) a.dst.now) end in
    elim c.loop-i-test.branch [
      | else-loop-i-test w ↦
          block a.from a.at at.i (a.count - 16) 16 a.src.now a.dst.now (w.dst-is ∙ at.invariant.1.1) c.copy_block-2.ensures (omega (arith, w.loop-i-test)) (omega arith) (omega arith) (omega arith) ∙ whole
      | then-loop-i-test+else-last-i-gt16 w ↦
          block a.from a.at (at.i + 16) (a.count - 16) 16 a.src.now a.dst.now
          (w.dst-is ∙ block a.from a.at at.i at.i 16 a.src.now a.dst.now at.invariant.1.1 w.copy_block.ensures (omega arith) (omega arith) (omega (arith, w.loop-i-test)) (omega (arith, w.loop-i-test)))
          c.copy_block-2.ensures (omega (arith, w.loop-i-test)) (omega (arith, w.loop-i-test)) (omega arith) (omega arith) ∙ whole
    ]
