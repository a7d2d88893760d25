-- What is painted by whether a setting has a value: secret mode, the key display.
use mathlib.Core.Path.{◌≡◌, ap}
use Prim.Native.Nat.{ℕ}
use mathlib.Core.Bool.{Bool, cond}
use mathlib.Core.List.{List}
use lib.Dec.{eqb}
use borrow.Author.Tests.{eq-eqb, ne_eqb}

module _ (n k : ℕ) (x y : List ℕ) where
  pub is : n ≡ k → cond (eqb n k) x y ≡ x
  is e = ap (λ (b : Bool). cond b x y) (eq-eqb n k e)

  pub is_not : (n ≡ k → ⊥) → cond (eqb n k) x y ≡ y
  is_not e = ap (λ (b : Bool). cond b x y) (ne_eqb n k e)
