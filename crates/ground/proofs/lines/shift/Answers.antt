-- `lines::shift` meets its contract: the lines move, their marks with them, and three marks are cleared.
use native.Mathlib.Omega.{arith}
use borrow.Author.Rules.{rules}
use Rattle.ground.specs.Logical.{carried, scrolled}
use Rattle.ground.proofs.Regions.{shifted_acts}
use Rattle.ground.proofs.lines.shift.Goals as goal

pub carry-requires : goal.carry-requires
carry-requires c =
    record { le_count = (omega arith, omega arith); screen_bound = c.requires.ready.stands.screen_low }

pub unmark_ends-requires : goal.unmark_ends-requires
unmark_ends-requires c =
    record { le_count = (omega arith, omega arith); screen_bound = c.requires.ready.stands.screen_low }

pub returns : goal.returns
returns c =
    let a = c.args in
    shifted_acts (search rules) c.requires.ready.stands.screen_low a.from a.count (scrolled a.way) (carried a.way a.from a.count) c.scroll.ensures c.carry.ensures c.unmark_ends.ensures
