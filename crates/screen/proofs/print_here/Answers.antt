-- `print_here` meets its contract: it stores, moves right and tracks, as the rule does.
use borrow.Author.Rules.{rules}
use Rattle.ground.proofs.Carried.{then_above_with, then_with, unmarked_acts}
use Rattle.screen.proofs.print_here.Goals as goal

pub returns : goal.returns
returns c =
    then_above_with (then_with (unmarked_acts (search rules) c.store.ensures) c.right-next.ensures) c.track.ensures
