-- `print_code`: the step that waited, then the character; it is wide if either lifts or the top is another, and painted where the cursor stands between
-- them.
use mathlib.Core.Path.{ap}
use mathlib.Core.Bool.{Bool, ◌&&◌, not}
use lib.Dec.{eqb, ltb}
use Rattle.model.specs.Rules.{printed}
use Rattle.ground.proofs.Carried.{then_with}
use Rattle.short_printing.proofs.Seeing.{sees_one}
use Rattle.short_printing.proofs.print_code.Goals as goal

pub returns : goal.returns
unfolding printed
returns c =
    let f = c.args.frame in
    let first = c.late_step-first in
    let next = c.print_here-next in (
      then_with first.ensures next.ensures,
      sees_one first.ensures next.ensures c.requires.shown_len
          (ap (λ (b : Bool). eqb c.args.place.late 1 && b) c.lowest.ensures)
          (ap (λ (b : Bool). not (ltb first.result.column f.columns) && (not (eqb f.rule 2) && b)) c.lowest-2.ensures) c.shown.ensures c.paint_code.ensures,
    )
