-- `window::track` meets its contract: where the window misses the cursor's line, its top is the nearest that shows it.
use borrow.Author.Rules.{rules}
use Rattle.model.specs.Rules.{nearest, tracked}
use Rattle.cursor.proofs.Windows.{lost_still, lost_turns}
use Rattle.cursor.proofs.window.track.Goals as goal

pub returns-then-misses : goal.returns-then-misses
unfolding tracked
returns-then-misses c =
    lost_turns c.misses.ensures c.if-misses.true c.near.ensures c.turn.ensures

pub returns-else-misses : goal.returns-else-misses
unfolding tracked
returns-else-misses c =
    lost_still nearest (search rules) (search rules) c.misses.ensures c.if-misses.false
