-- By the test of the mode; the comparisons are those of the table's ranges.
use borrow.Author.Tests.{eq-eqb, ne_eqb}
use Prim.Native.Nat.{◌-◌}
use Rattle.model.specs.Sound.{shape_ranges}
use Rattle.soundness.proofs.Chains.{mode_0, mode_1, mode_2}
use Rattle.soundness.proofs.shape.Goals as goal

pub returns-then-mode-eq0 : goal.returns-then-mode-eq0
unfolding shape_ranges
returns-then-mode-eq0 c =
    rw (eq-eqb _ _ c.if-mode-eq0.true, c.minus-left.ensures) (let a = c.args in mode_0 a.lines1 a.lines2 a.columns1 a.columns2 (48 - a.lines1))

pub returns-then-mode-eq1 : goal.returns-then-mode-eq1
unfolding shape_ranges
returns-then-mode-eq1 c =
    rw (ne_eqb _ _ c.if-mode-eq0.false, eq-eqb _ _ c.if-mode-eq1.true) (let a = c.args in mode_1 a.lines1 a.lines2 a.columns1 a.columns2)

pub returns-then-mode-eq2 : goal.returns-then-mode-eq2
unfolding shape_ranges
returns-then-mode-eq2 c =
    rw (ne_eqb _ _ c.if-mode-eq0.false, ne_eqb _ _ c.if-mode-eq1.false, eq-eqb _ _ c.if-mode-eq2.true, c.minus-beside.ensures) (let a = c.args in mode_2 a.lines1 a.lines2 a.columns1 a.columns2 (79 - a.columns1))

pub returns : goal.returns
unfolding shape_ranges
returns c =
    rw (ne_eqb _ _ c.if-mode-eq0.false, ne_eqb _ _ c.if-mode-eq1.false, ne_eqb _ _ c.if-mode-eq2.false) c.curve.ensures
