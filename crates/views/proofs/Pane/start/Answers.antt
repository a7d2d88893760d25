-- `Pane::start`: the row lies among the cells, so its first cell does.
use borrow.Author.Rules.{rules}
use Rattle.views.proofs.Pane.start.Goals as goal

pub returns : goal.returns
returns c =
    record { starts = search rules; inside = search rules }
