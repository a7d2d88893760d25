-- `uncover` meets its contract: a bare layer stays, whatever place shows the cursor's cell.
use Rattle.cursor.proofs.ShownLaws.{bare_uncovers}
use Rattle.cursor.proofs.uncover.Goals as goal

pub returns-then-frame : goal.returns-then-frame
returns-then-frame c =
    bare_uncovers _ (c.requires.layer_of.empty c.if-frame.true)

pub returns : goal.returns
returns c =
    record { from = c.shown.result; shows = c.shown.ensures; is = c.empty_from.ensures }
