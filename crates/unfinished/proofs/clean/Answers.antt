-- `all` is the test of the bytes that were looked at.
use mathlib.Core.Path.{◌∙◌, ap, sym}
use Prim.Native.Nat.{ℕ}
use native.Mathlib.Numerals.{add-one}
use mathlib.Core.Bool.{◌&&◌, ◌||◌}
use lib.ListN.{drop, get_or, take}
use lib.Seq.{drop-nil, take_all}
use lib.Dec.{eqb, ltb}
use borrow.Author.Rules.{rules}
use Rattle.model.specs.Line.{zeros?}
use Rattle.unfinished.proofs.TestLaws.{zeros_step}
use Rattle.unfinished.proofs.clean.Goals as goal

pub loop-i-init : goal.loop-i-init
unfolding zeros?
loop-i-init c =
    rw (drop-nil {A = ℕ} c.args.held)

pub loop-i-preserved : goal.loop-i-preserved
loop-i-preserved c =
    let a = c.args in
    let l = c.loop-i in
    (λ i. l.invariant i && (ltb l.i (c.from.ensures i) || eqb (get_or a.waiting l.i 0) 0)) ∙ sym (ap (λ (k : ℕ). zeros? (drop a.held (take k a.waiting))) (add-one l.i) ∙ zeros_step a.waiting l.i a.held (search rules))

pub returns : goal.returns
returns c =
    let w = c.args.waiting in
    c.loop-i.invariant ∙ ap (λ (l : _). zeros? (drop c.args.held l)) (take_all c.loop-i.i w (search rules))
