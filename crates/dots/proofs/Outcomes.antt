-- A test that stands in several places at once, by its outcomes, each with its equation.
use mathlib.Core.Path.{◌≡◌, refl}
use mathlib.Core.Bool.{Bool, false, true}
use Rattle.model.proofs.Tests.{by_test}

pub by_outcome : (P : Bool → Type 0) (b : Bool) → (b ≡ true → P true) → (b ≡ false → P false) → P b
by_outcome P b t f = by_test (λ x. b ≡ x → P x) b t f refl
