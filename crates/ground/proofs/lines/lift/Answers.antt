-- `lines::lift` meets its contract: all lines of the screen and all its marks go up.
use native.Mathlib.Omega.{arith}
use borrow.Author.Rules.{rules}
use Rattle.ground.proofs.Regions.{lifted_acts}
use Rattle.ground.proofs.lines.lift.Goals as goal

pub carry-requires : goal.carry-requires
carry-requires c =
    record { le_count = (omega arith, omega arith); screen_bound = c.requires.ready.stands.screen_low }

pub scroll-requires : goal.scroll-requires
scroll-requires c =
    record { ready = search rules; le_count = (omega arith, omega arith) }

pub returns : goal.returns
returns c =
    lifted_acts (search rules) c.scroll.ensures c.carry.ensures
