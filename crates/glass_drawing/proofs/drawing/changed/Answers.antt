-- `changed` meets its contract: two letters compared.
use Rattle.glass_drawing.specs.Drawing.{changed}
use Rattle.glass_drawing.proofs.drawing.changed.Goals as goal

pub returns : goal.returns
unfolding changed
returns c =
    rw (c.letter_of.ensures, c.letter_of-2.ensures)
