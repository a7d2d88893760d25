-- `window::misses` meets its contract: it is the rule's test, on the frame's numbers.
use Rattle.cursor.proofs.Windows.{lost_is}
use Rattle.cursor.proofs.window.misses.Goals as goal

pub returns : goal.returns
returns c =
    lost_is
