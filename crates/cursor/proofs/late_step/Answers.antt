-- `late_step` meets its contract: the step where the cursor is late, else nothing.
use native.Mathlib.Omega.{arith}
use borrow.Author.Rules.{rules}
use Rattle.ground.proofs.Carried.{unmarked_acts}
use Rattle.cursor.proofs.Moves.{late_step_steps, late_step_still}
use Rattle.cursor.proofs.late_step.Goals as goal

pub returns-then-place-eq1 : goal.returns-then-place-eq1
returns-then-place-eq1 c =
    late_step_steps (omega (arith, c.if-place-eq1.true)) c.onward.ensures

pub returns-else-place-eq1 : goal.returns-else-place-eq1
returns-else-place-eq1 c =
    unmarked_acts (search rules) (late_step_still c.requires.ready (λ e. omega (arith, e, c.if-place-eq1.false)))
