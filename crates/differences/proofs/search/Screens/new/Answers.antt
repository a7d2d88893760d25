-- `new`: a screen that is no array of 640 bytes has not its size.
use mathlib.Core.Path.{refl}
use borrow.Author.Tests.{eq-eqb, ne_eqb}
use Rattle.differences.specs.Answers.{sized}
use Rattle.differences.proofs.search.Screens.new.Goals as goal

pub returns-in_default : goal.returns-in_default
unfolding sized
returns-in_default c = (simp (ne_eqb _ _ c.in_default.ensures.cases), refl)

pub returns-in_default-as_array : goal.returns-in_default-as_array
unfolding sized
returns-in_default-as_array c = (simp (eq-eqb _ _ c.in-Some.ensures.cases.long, ne_eqb _ _ c.in_default-as_array.ensures.cases), refl)

pub returns : goal.returns
unfolding sized
returns c = (simp (eq-eqb _ _ c.in-Some.ensures.cases.long, eq-eqb _ _ c.in-Some-as_array.ensures.cases.long), (c.in-Some.ensures.cases.same, c.in-Some-as_array.ensures.cases.same))
