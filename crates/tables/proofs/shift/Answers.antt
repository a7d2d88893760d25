-- `tables::shift` meets its contract: its keys are the list.
use mathlib.Core.Path.{refl, sym}
use native.Mathlib.Omega.{arith}
use mathlib.Core.Bool.{not}
use mathlib.Core.List.{[], ◌∷◌}
use borrow.Author.Tests.{not-true}
use Rattle.model.specs.Checks.{member}
use Rattle.model.specs.Sound.{shifts}
use Rattle.model.proofs.Arms.{beside, one_of}
use Rattle.tables.proofs.shift.Goals as goal

pub returns-in-0 : goal.returns-in-0
unfolding member
returns-in-0 c =
    sym (one_of (λ n. member n shifts) shifts _ refl c.in-0.is)

pub returns-in_default : goal.returns-in_default
unfolding member
returns-in_default c =
    sym (not-true _ (beside (λ n. not (member n shifts)) (shifts ∷ []) 0 256 _ refl c.in_default.in_default-own.rest (omega arith)))
