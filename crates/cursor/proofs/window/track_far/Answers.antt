-- `window::track_far` meets its contract: where the window misses the cursor's line, its top is that of ESC 215.
use borrow.Author.Rules.{rules}
use Rattle.model.specs.Rules.{centred, tracked_far}
use Rattle.cursor.proofs.Windows.{lost_still, lost_turns}
use Rattle.cursor.proofs.window.track_far.Goals as goal

pub returns-then-misses : goal.returns-then-misses
unfolding tracked_far
returns-then-misses c =
    lost_turns c.misses.ensures c.if-misses.true c.centre.ensures c.turn.ensures

pub returns-else-misses : goal.returns-else-misses
unfolding tracked_far
returns-else-misses c =
    lost_still centred (search rules) (search rules) c.misses.ensures c.if-misses.false
