-- `obey` meets its contract: what the crate `obeying`'s `obey_item` does, and whether the item is wide by its kind, a lift or the top (Stirring).
use Rattle.short_obeying.proofs.Stirring.{sees_other}
use Rattle.short_obeying.proofs.obey.Goals as goal

pub returns : goal.returns
returns c =
    (c.obey_item-run.ensures, λ secret shown n. sees_other c.obey_item-run.ensures c.requires.offered.1 c.stirs-wide.ensures secret shown n)
