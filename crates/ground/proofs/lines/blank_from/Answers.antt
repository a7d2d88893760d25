-- `lines::blank_from` meets its contract: the blanked cells begin at the cursor's.
use borrow.Author.Rules.{rules}
use Rattle.ground.proofs.Regions.{blank_acts}
use Rattle.ground.proofs.lines.blank_from.Goals as goal

pub returns : goal.returns
returns c =
    blank_acts (search rules) c.empty.ensures _ c.requires.count_bound c.cell-from.ensures c.blank.ensures
