-- The opening's number by its two tests.
use mathlib.Core.Path.{◌≡◌, refl}
use Prim.Native.Nat.{ℕ}
use native.Mathlib.Omega.{arith}
use mathlib.Core.Bool.{Bool, ◌&&◌, cond, false, true}
use mathlib.Core.List.{List}
use Rattle.calls.specs.Calls.{Terminal, sized}
use Rattle.calls.specs.Opening.{opening_number, ruled, unopened}

module _ (rule : ℕ) (cells layer dots shown : List ℕ) where
  abbrev given : Terminal
  given = unopened cells layer dots shown

  -- the number by its two tests
  pub numbered : (a b : Bool) → sized given ≡ a → ruled rule ≡ b → opening_number rule given ≡ cond a (cond b 0 23) 1
  unfolding opening_number
  numbered a b p q = λ i. cond (p i) (cond (q i) 0 23) 1

  -- number 0: both hold; any other: one does not
  pub both : opening_number rule given ≡ 0 → (sized given ≡ true) × (ruled rule ≡ true)
  unfolding opening_number
  both = go (sized given) (ruled rule)
    where
      go : (a b : Bool) → ◌≡◌ {A = ℕ} (cond a (cond b 0 23) 1) 0 → (a ≡ true) × (b ≡ true)
      go true true e = (refl, refl)
      go true false e = absurd (omega (arith, e))
      go false b e = absurd (omega (arith, e))

  pub not_both : (opening_number rule given ≡ 0 → ⊥) → (sized given && ruled rule) ≡ false
  unfolding opening_number
  not_both = go (sized given) (ruled rule)
    where
      go : (a b : Bool) → (◌≡◌ {A = ℕ} (cond a (cond b 0 23) 1) 0 → ⊥) → (a && b) ≡ false
      go true true e = absurd (e refl)
      go true false e = refl
      go false b e = refl
