-- `row_of`: in each turn the first letters stand, and behind the last of them nothing is left of what stood at first.
use mathlib.Core.Path.{◌∙◌, ◌≡◌, sym}
use Prim.Native.Nat.{ℕ}
use native.Mathlib.Omega.{arith}
use lib.ListN.{length-replicate}
use borrow.Author.Rules.{rules}
use Rattle.store.proofs.Laws.{put_all, put-none}
use Rattle.glass_drawing.specs.Curve.{letters_to}
use Rattle.glass_drawing.proofs.Letters.{length-letters, one_more}
use Rattle.glass_drawing.proofs.curve.row_of.Goals as goal

pub loop-column-init : goal.loop-column-init
unfolding letters_to
loop-column-init c =
    (length-replicate {A = ℕ} 240 0, length-replicate {A = ℕ} 240 0, sym (put-none 0 _))

pub loop-column-preserved : goal.loop-column-preserved
loop-column-preserved c =
    let l = c.loop-column in
    let a = c.args in
    (l.invariant.0, search rules, one_more a.dots.now a.row l.column _ l.invariant.2 c.pattern_of.ensures c.put_letter.ensures (omega arith) l.invariant.0)

pub returns : goal.returns
returns c =
    let l = c.loop-column in
    let a = c.args in
    let end : l.column ≡ 80 = omega arith in
    l.invariant.2 ∙ rw end (put_all (letters_to a.dots.now a.row 80) _ (omega (arith, length-letters a.dots.now a.row 80)))
