-- What the check of the stores says of the test that it makes.
use mathlib.Core.Path.{◌≡◌, refl}
use native.Mathlib.Omega.{arith}
use mathlib.Core.Bool.{Bool, cond, false, true}
use Rattle.model.specs.declared.Refusal.{Refusal}
use Rattle.model.specs.Refusals.{refusal_number}
use Rattle.model.proofs.RefusalLaws.{not_0}
use Prim.Native.Nat.{ℕ}

-- passed
pub sized_all : (b : Bool) → ◌≡◌ {A = ℕ} 0 (cond b 0 1) → b ≡ true
sized_all true e = refl
sized_all false e = absurd (omega (arith, e))

-- refused, by 1
pub sized_not : (r : Refusal) (b : Bool) → refusal_number r ≡ cond b 0 1 → (b ≡ false) × (refusal_number r ≡ 1)
sized_not r true e = absurd (not_0 r e)
sized_not r false e = (refl, e)
