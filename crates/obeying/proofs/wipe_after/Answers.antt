-- By the test: a clearing in mode 3 wipes the dots, anything else leaves them.
use Rattle.obeying.proofs.Wiping.{spared_when, wiped_when}
use Rattle.obeying.proofs.wipe_after.Goals as goal

pub returns-then-clears-mode : goal.returns-then-clears-mode
returns-then-clears-mode c =
    let a = c.args in
    wiped_when a.mode a.item a.dots.now c.clears.ensures c.if-clears-mode.true c.requires c.wipe.ensures

pub returns-else-clears-mode : goal.returns-else-clears-mode
returns-else-clears-mode c = let a =
    c.args in spared_when a.mode a.item a.dots.now c.clears.ensures c.if-clears-mode.false
