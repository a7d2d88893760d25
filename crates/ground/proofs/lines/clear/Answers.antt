-- `lines::clear` meets its contract: the blanked cells and the cleared marks are those of all lines of the screen, and home is a place of it.
use native.Mathlib.Omega.{arith}
use borrow.Author.Rules.{rules}
use Rattle.ground.proofs.Regions.{cleared_acts}
use Rattle.ground.proofs.lines.clear.Goals as goal

pub unmark-requires : goal.unmark-requires
unmark-requires c =
    record { le_from = (omega arith, (omega arith, omega arith)); screen_bound = c.requires.ready.stands.screen_low }

pub returns : goal.returns
returns c =
    cleared_acts c.requires.ready c.empty.ensures c.times.ensures.0 c.blank.ensures (search rules) c.unmark.ensures c.home_place.ensures
