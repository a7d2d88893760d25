-- `paint_bytes`: no place, or as many blanks or bytes put at once as there are places for.
use mathlib.Core.Path.{sym}
use Prim.Native.Nat.{◌+◌, ◌-◌}
use native.Mathlib.Omega.{arith}
use Rattle.store.proofs.Laws.{lent_filled}
use Rattle.short_printing.proofs.Rows.{blanks_put, bytes_put, none_shown}
use Rattle.short_printing.proofs.paint_bytes.Goals as goal

pub returns-then-spot-ge-SHOWN : goal.returns-then-spot-ge-SHOWN
returns-then-spot-ge-SHOWN c = let a =
    c.args in sym (none_shown a.secret _ a.spot a.shown.now (omega arith))

pub returns-then-secret-eq1 : goal.returns-then-secret-eq1
returns-then-secret-eq1 c =
    let n = c.min-n in
    let a = c.args in
    blanks_put a.secret a.message.now a.at a.count a.spot a.shown.now c.requires.shown_len (omega arith) c.requires.count_in_bounds n.ensures c.if-secret-eq1.true
    (lent_filled a.spot n.result (a.spot + n.result - a.spot) 32 a.shown.now c.fill.ensures (omega arith) (omega arith))

pub returns : goal.returns
returns c =
    let a = c.args in
    bytes_put a.secret a.message.now a.at a.count a.spot a.shown.now c.requires.shown_len (omega arith) c.requires.count_in_bounds c.min-n.ensures c.if-secret-eq1.false c.copy_in.ensures
