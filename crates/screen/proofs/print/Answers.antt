-- `print` meets its contract: the step that waited, and the rest of the rule.
use Rattle.model.specs.Rules.{printed}
use Rattle.ground.proofs.Carried.{then_with}
use Rattle.screen.proofs.print.Goals as goal

pub returns : goal.returns
unfolding printed
returns c =
    then_with c.late_step-first.ensures c.print_here.ensures
