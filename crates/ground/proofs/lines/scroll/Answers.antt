-- `lines::scroll` meets its contract: the lines lie on the screen, and the cells move by the width of a line, up or down.
use native.Mathlib.Omega.{arith}
use borrow.Author.Rules.{rules}
use Rattle.model.specs.Bytes.{scrolled_down, scrolled_up}
use Rattle.model.proofs.ByteLaws.{length_down, length_up}
use Rattle.ground.proofs.Cells.{lines_room}
use Rattle.ground.proofs.Regions.{lines_move}
use Rattle.ground.proofs.lines.scroll.Goals as goal

pub scroll_down-requires : goal.scroll_down-requires
scroll_down-requires c =
    omega (arith, lines_room c.requires.ready.stands _ _ c.requires.le_count.0 c.requires.le_count.1)

pub scroll_up-requires : goal.scroll_up-requires
scroll_up-requires c =
    omega (arith, lines_room c.requires.ready.stands _ _ c.requires.le_count.0 c.requires.le_count.1)

pub returns-in-Down : goal.returns-in-Down
returns-in-Down c =
    rw c.in-Down.is
    (lines_move (search rules) c.empty.ensures _ _ scrolled_down length_down c.requires.le_count.1 c.times.ensures.0 c.times-size.ensures.0 c.from-width.ensures c.scroll_down.ensures)

pub returns-in-Up : goal.returns-in-Up
returns-in-Up c =
    rw c.in-Up.is
    (lines_move (search rules) c.empty.ensures _ _ scrolled_up length_up c.requires.le_count.1 c.times.ensures.0 c.times-size.ensures.0 c.from-width.ensures c.scroll_up.ensures)
