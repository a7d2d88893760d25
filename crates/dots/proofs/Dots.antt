-- One dot, bit by bit: what a change of it leaves, and that it changes no other.
use mathlib.Core.Path.{◌∙◌, ◌≡◌, ap}
use Prim.Native.Nat.{◌%◌, ◌*◌, ◌+◌, ◌/◌, ◌<◌, ℕ}
use native.Mathlib.Nat.{zero-div}
use native.Mathlib.Omega.{arith}
use mathlib.Core.List.{List}
use lib.ListN.{get_or-eq_default, get_or, get_or-replicate, length, length-replicate, replicate, set}
use lib.Seq.{get_or-set_other, get_or-set_same}
use lib.Dec.{eqb, ltb}
use borrow.Author.Tests.{eqb-false, eqb-true, ltb-false, ltb-true}
use Rattle.model.specs.Dot.{acted, bit_of, byte_of, dot_at, wanted, weight, with_bit, with_dot}
use Rattle.dots.proofs.Outcomes.{by_outcome}
use Rattle.dots.proofs.Weights.{bit_here, bit_there, wanted_below}

-- the dot is what it was made ..
pub dot_here : (on v h : ℕ) (dots : List ℕ) → on < 2 → byte_of v h < length dots → dot_at v h (with_dot on v h dots) ≡ on
unfolding with_dot dot_at
dot_here on v h dots two l =
    let at = byte_of v h in
    ap (bit_of (weight h)) (get_or-set_same dots at (with_bit on (weight h) (get_or dots at 0)) 0 l) ∙ bit_here on (get_or dots at 0) h two

-- .. and no other dot changes
pub dot_there : (on v h v' h' : ℕ) (dots : List ℕ) → on < 2 → h < 480 → h' < 480 → byte_of v h < length dots → (v ≡ v' → h ≡ h' → ⊥) → dot_at v' h' (with_dot on v h dots) ≡ dot_at v' h' dots
unfolding with_dot dot_at
dot_there on v h v' h' dots two a b l ne =
    let at = byte_of v h in
    let new = with_bit on (weight h) (get_or dots at 0) in
    by_outcome (λ t. bit_of (weight h') (get_or (set dots at new) (byte_of v' h') 0) ≡ bit_of (weight h') (get_or dots (byte_of v' h') 0)) (eqb (byte_of v' h') at)
    (λ t.
    let e = eqb-true (byte_of v' h') at t in
    let row : v ≡ v' = omega arith in
    let ne₂ : h % 8 ≡ h' % 8 → ⊥ = λ g. ne row (omega arith) in
    rw e (ap (bit_of (weight h')) (get_or-set_same dots at new 0 l) ∙ bit_there on (get_or dots at 0) h h' two ne₂))
    (λ t. ap (bit_of (weight h')) (get_or-set_other dots at (byte_of v' h') new 0 (eqb-false (byte_of v' h') at t)))

-- the same of 198's function
module _ (f v h : ℕ) (dots : List ℕ) where
  pub acted_here : byte_of v h < length dots → dot_at v h (acted f v h dots) ≡ wanted f (dot_at v h dots)
  unfolding acted
  acted_here l = dot_here (wanted f (dot_at v h dots)) v h dots (wanted_below f (dot_at v h dots)) l

  pub acted_there : (v' h' : ℕ) → h < 480 → h' < 480 → byte_of v h < length dots → (v ≡ v' → h ≡ h' → ⊥) → dot_at v' h' (acted f v h dots) ≡ dot_at v' h' dots
  unfolding acted
  acted_there v' h' a b l ne = dot_there (wanted f (dot_at v h dots)) v h v' h' dots (wanted_below f (dot_at v h dots)) a b l ne

  -- its byte set to what `change` makes of it
  pub dot_made : (row : ℕ) {b : ℕ} → b ≡ with_bit (wanted f (bit_of (weight h) (get_or dots (row + h / 8) 0))) (weight h) (get_or dots (row + h / 8) 0)
      → row ≡ 60 * v → set dots (row + h / 8) b ≡ acted f v h dots
  unfolding acted with_dot dot_at
  dot_made row g e = rw (g, e)

-- 199's 1 and 0 are the functions 2 and 1
module _ (v h : ℕ) (dots : List ℕ) {on : ℕ} where
  pub put_on : on ≡ 1 → acted 2 v h dots ≡ with_dot on v h dots
  unfolding acted
  put_on e = rw e

  pub put_off : on ≡ 0 → acted 1 v h dots ≡ with_dot on v h dots
  unfolding acted
  put_off e = rw e

-- every dot of a wiped store is off
pub dot_wiped : (n v h : ℕ) → dot_at v h (replicate n 0) ≡ 0
unfolding dot_at
dot_wiped n v h =
    let xs : List ℕ = replicate n 0 in
    let z : get_or xs (byte_of v h) 0 ≡ 0 =
    by_outcome (λ t. get_or xs (byte_of v h) 0 ≡ 0) (ltb (byte_of v h) n) (λ t. get_or-replicate n (byte_of v h) 0 0 (ltb-true (byte_of v h) n t))
    (λ t. get_or-eq_default xs 0 (omega (arith, length-replicate {A = ℕ} n 0, ltb-false (byte_of v h) n t))) in
    rw (z, zero-div)
