-- `paint`: all rows at once, or row by row with numbers that are the view's.
use mathlib.Core.Path.{◌≡◌}
use Prim.Native.Nat.{◌*◌, ◌+◌, ◌≤◌, ℕ}
use native.Mathlib.Omega.{arith}
use borrow.Author.Rules.{rules}
use Rattle.views.proofs.Runs.{whole_made}
use Rattle.views.proofs.View.paint.Goals as goal

-- a pane as wide as the screen has all its rows among the cells
fits : (at rows width : ℕ) → width ≡ 80 → at + rows * width ≤ 3840 → at + rows * 80 ≤ 3840
fits at rows width e h = rw e at h

pub overflow_mul-self : goal.overflow_mul-self
overflow_mul-self c =
    omega (arith, c.requires.framed.rows_high)

pub copy_many-requires : goal.copy_many-requires
copy_many-requires c =
    let v = c.args.self in
    let framed = c.requires.framed in
    omega (arith, framed.rows_high, fits v.left.at v.rows v.left.width (omega arith) framed.left_inside)

pub returns-then-left-eq-ROW : goal.returns-then-left-eq-ROW
returns-then-left-eq-ROW c =
    let a = c.args in
    whole_made a.self c.requires.framed a.cells.now a.shown.now c.told-cells (omega arith) c.copy_many.ensures

pub paint_rows-requires : goal.paint_rows-requires
paint_rows-requires c =
    let h = c.requires.framed.halves c.if-self-eq2.true in
    search rules

pub paint_rows-requires-2 : goal.paint_rows-requires-2
paint_rows-requires-2 c =
    let h = c.requires.framed.single c.if-left-eq-ROW.false c.if-self-eq2.false in
    search rules
