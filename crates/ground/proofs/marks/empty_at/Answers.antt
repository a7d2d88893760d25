-- `marks::empty_at` meets its contract: a bare layer stays, and a place below 640 has its mark and its code in the layer.
use mathlib.Core.Path.{sym}
use native.Mathlib.Omega.{arith}
use lib.ListN.{length-set}
use borrow.Author.Tests.{le-ltb, lt-ltb}
use Rattle.model.specs.Rules.{empty_at}
use Rattle.ground.proofs.Rows.{empty_at_bare}
use Rattle.ground.proofs.marks.empty_at.Goals as goal

pub returns-then-frame : goal.returns-then-frame
unfolding empty_at
returns-then-frame c =
    sym (empty_at_bare c.args.shown _ (c.requires.empty c.if-frame.true))

pub bounds-layer-shown-then-shown-lt-SHOWN : goal.bounds-layer-shown-then-shown-lt-SHOWN
unfolding empty_at
bounds-layer-shown-then-shown-lt-SHOWN c =
    simp length-set (omega arith)

pub shape_of-layer : goal.shape_of-layer
unfolding empty_at
shape_of-layer c =
    simp length-set

pub returns-then-shown-lt-SHOWN : goal.returns-then-shown-lt-SHOWN
unfolding empty_at
returns-then-shown-lt-SHOWN c =
    rw (lt-ltb _ _ c.if-shown-lt-SHOWN.true)

pub returns-else-shown-lt-SHOWN : goal.returns-else-shown-lt-SHOWN
unfolding empty_at
returns-else-shown-lt-SHOWN c =
    rw (le-ltb _ _ c.if-shown-lt-SHOWN.false)
