-- The shift leaves nothing, or there are more lines than bits.
use mathlib.Core.Path.{◌∙◌, ap}
use Prim.Native.Nat.{◌/◌, ◌<◌, ◌^◌, ℕ}
use native.Mathlib.Omega.{arith}
use lib.Dec.{eqb}
use Rattle.model.specs.Marks.{marked?}
use Rattle.soundness.proofs.LineMarks.{none-beyond, shifted_out}
use Rattle.soundness.proofs.marked_in.Goals as goal

pub returns-then-above-ge64 : goal.returns-then-above-ge64
unfolding marked?
returns-then-above-ge64 c =
    let a = c.args in
    let small : a.number < 2 ^ 64 = omega arith in
    none-beyond a.number _ small (omega (arith, c.minus-above.ensures, c.if-above-ge64.true))

pub returns : goal.returns
unfolding marked?
returns c =
    let a = c.args in
    ap (λ (k : ℕ). eqb (a.number / 2 ^ k) 0) c.minus-above.ensures ∙ shifted_out a.number _
