-- `writer::gathering::gather` meets its contract: a 209 alone, or the parameters copied behind the first two bytes.
use mathlib.Core.Path.{◌∙◌}
use Rattle.writer.proofs.Laws.{given_alone, given-more}
use Rattle.writer.proofs.gathering.gather.Goals as goal

pub returns-then-second-count : goal.returns-then-second-count
returns-then-second-count c =
    c.of.ensures ∙ given_alone _ _ c.if-second-count.true

pub returns : goal.returns
returns c =
    c.front.ensures ∙ given-more _ _ c.if-second-count.false c.requires _ c.copy_in.ensures
