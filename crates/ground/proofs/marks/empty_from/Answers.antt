-- `marks::empty_from` meets its contract: a bare layer stays; else the marks of the places that there are, then their codes.
use mathlib.Core.Path.{◌∙◌, sym}
use Rattle.ground.proofs.Rows.{empty_from_bare, empty_from-none, empty_from-put}
use Rattle.ground.proofs.marks.empty_from.Goals as goal

pub returns-then-frame : goal.returns-then-frame
returns-then-frame c =
    sym (empty_from_bare _ _ _ (c.requires.empty c.if-frame.true))

pub returns-then-shown-lt-SHOWN : goal.returns-then-shown-lt-SHOWN
returns-then-shown-lt-SHOWN c =
    let n = c.min-n in
    c.zero-then-shown-lt-SHOWN.ensures ∙ rw c.zero.ensures (empty_from-put c.args.count c.args.shown c.args.layer.now c.if-shown-lt-SHOWN.true c.requires.size n.ensures)

pub returns-else-shown-lt-SHOWN : goal.returns-else-shown-lt-SHOWN
returns-else-shown-lt-SHOWN c =
    sym (empty_from-none _ _ _ c.if-shown-lt-SHOWN.false)
