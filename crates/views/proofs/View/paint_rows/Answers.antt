-- `paint_rows`: after `row` turns the rows before it are painted; the view that is painted is the one that is asked for.
use mathlib.Core.Path.{◌∙◌, ◌≡◌, subst, sym}
use Prim.Native.Nat.{◌*◌, ◌+◌, ℕ}
use native.Mathlib.Omega.{arith}
use Rattle.views.specs.declared.View.{View}
use Rattle.views.specs.Panes.{Framed, seen}
use Rattle.views.specs.Painted.{painted}
use Rattle.views.proofs.Painted.{painted_next, painted-none}
use Rattle.views.proofs.View.paint_rows.Goals as goal

-- a view made anew from numbers that are its own
made-anew : (v : View) {one gap two : ℕ} → (one ≡ v.left.width) × ((gap ≡ v.gap) × (two ≡ v.right.width))
    → record { rows = v.rows; left = record { at = v.left.at; width = one }; gap = gap; code = v.code; right = record { at = v.right.at; width = two } } ≡ v
made-anew v e = λ i. record { rows = v.rows; left = record { at = v.left.at; width = e.0 i }; gap = e.1.0 i; code = v.code; right = record { at = v.right.at; width = e.1.1 i } }

pub loop-row-init : goal.loop-row-init
loop-row-init c =
    painted-none _ _ _

pub paint_row-requires : goal.paint_row-requires
paint_row-requires c =
    record { framed = (subst (λ (v : View). Framed v) (sym (made-anew c.args.self c.requires.one_value)) c.requires.framed, omega arith) }

pub loop-row-preserved : goal.loop-row-preserved
loop-row-preserved c =
    let few = c.requires.framed.rows_high in
    painted_next 0 _ _ (c.loop-row.row * 80) 80 ((c.loop-row.row + 1) * 80) c.loop-row.invariant c.paint_row.ensures (omega arith) (omega arith) (omega arith)

pub returns : goal.returns
returns c =
    let loop = c.loop-row in
    let n : loop.row * 80 ≡ c.args.self.rows * 80 = omega arith in
    loop.invariant ∙ (λ i. painted 0 (n i) (seen (made-anew c.args.self c.requires.one_value i) c.args.cells.now) c.args.shown.now)
