-- `lines::erase_through` meets its contract: so many cells are left from the cursor to the end of that line.
use native.Mathlib.Omega.{arith}
use borrow.Author.Rules.{rules}
use Rattle.ground.proofs.Regions.{erased_acts}
use Rattle.ground.proofs.Cells.{through_room}
use Rattle.ground.proofs.lines.erase_through.Goals as goal

pub blank_from-requires : goal.blank_from-requires
blank_from-requires c =
    record { ready = c.requires.ready; count_bound = omega (arith, through_room c.requires.ready.stands c.args.to c.requires.line_le_to.1) }

pub unmark-requires : goal.unmark-requires
unmark-requires c =
    record { le_from = (omega arith, (omega arith, omega arith)); screen_bound = c.requires.ready.stands.screen_low }

pub returns : goal.returns
returns c =
    erased_acts (search rules) c.args.to (omega (arith, c.times-below.ensures.0, c.from.ensures, c.from-2.ensures)) c.blank_from.ensures c.unmark.ensures
