-- What the arms of a `match` on a number know of it. An arm of keys knows that the number is one of them; where keys stand side
-- by side the arm knows a range, and, as the default does, that the number is none of the other arms' keys.
use mathlib.Core.Path.{◌≡◌, refl, subst, sym}
use mathlib.Core.Logic.{inl, inr, ⊎_elim}
use Prim.Native.Nat.{ℕ, zero, suc, ◌+◌, ◌≤◌, ◌<◌}
use native.Mathlib.Nat.{eq-or-lt_of_le}
use native.Mathlib.Omega.{arith}
use mathlib.Core.Bool.{Bool, true, false, not, ◌&&◌, ◌||◌}
use mathlib.Core.List.{List, [], ◌∷◌, ◌++◌}
use lib.Dec.{T}
use mir.Val.{has_key}
use types.Run.{OneOf, hit, miss}
use borrow.Author.Tests.{ne_eqb}
use Rattle.model.specs.Sequences.{Row, find}
use Rattle.model.proofs.Tests.{and_left, and_right}

-- a test at every number of a list
abbrev pub every : (ℕ → Bool) → List ℕ → Bool
every f [] = true
every f (x ∷ xs) = f x && every f xs

pub one_of : (f : ℕ → Bool) (ks : List ℕ) (x : ℕ) → every f ks ≡ true → OneOf ks x → f x ≡ true
one_of f [] x e o = absurd o
one_of f (k ∷ []) x e o = subst (λ (y : ℕ). f y ≡ true) (sym o) (and_left (f k) true e)
one_of f (k ∷ l ∷ ks) x e (inl o) = subst (λ (y : ℕ). f y ≡ true) (sym o) (and_left (f k) (every f (l ∷ ks)) e)
one_of f (k ∷ l ∷ ks) x e (inr o) = one_of f (l ∷ ks) x (and_right (f k) (every f (l ∷ ks)) e) o

-- a test at each of n numbers
abbrev pub run : (ℕ → Bool) → ℕ → ℕ → Bool
run f low zero = true
run f low (suc n) = f low && run f (suc low) n

in_run : (f : ℕ → Bool) (low n x : ℕ) → run f low n ≡ true → low ≤ x → x < low + n → f x ≡ true
in_run f low zero x e p q = absurd (omega arith)
in_run f low (suc n) x e p q =
    ⊎_elim (λ s. subst (λ (y : ℕ). f y ≡ true) s (and_left (f low) (run f (suc low) n) e))
    (λ s. in_run f (suc low) n x (and_right (f low) (run f (suc low) n) e) s (omega arith)) (eq-or-lt_of_le p)

-- none of the keys of some arms, one after the other
abbrev pub NoneOf : Type 0 → List (List ℕ) → ℕ → Type 0
NoneOf A [] x = A
NoneOf A (ks ∷ arms) x = NoneOf (A × (OneOf ks x → ⊥)) arms x

before : (A : Type 0) (arms : List (List ℕ)) (x : ℕ) → NoneOf A arms x → A
before A [] x n = n
before A (ks ∷ arms) x n = (before (A × (OneOf ks x → ⊥)) arms x n).0

-- one of the keys of some arms, as a test
abbrev pub any_key : List (List ℕ) → ℕ → Bool
any_key [] x = false
any_key (ks ∷ arms) x = has_key ks x || any_key arms x

no_key : (b : Bool) → (T b → ⊥) → b ≡ false
no_key true h = absurd (h tt)
no_key false h = refl

none_of : (A : Type 0) (arms : List (List ℕ)) (x : ℕ) → NoneOf A arms x → any_key arms x ≡ false
none_of A [] x n = refl
none_of A (ks ∷ arms) x n =
    let B = A × (OneOf ks x → ⊥) in
    rw (no_key (has_key ks x) (λ t. (before B arms x n).1 (hit ks x t))) (none_of B arms x n)

-- a test at each of n numbers but for the arms' keys
pub beside : (f : ℕ → Bool) (arms : List (List ℕ)) (low n x : ℕ) → run (λ y. any_key arms y || f y) low n ≡ true → NoneOf (Unit {0}) arms x → (low ≤ x) × (x < low + n) → f x ≡ true
beside f arms low n x e r p = rw (none_of (Unit {0}) arms x r) at (in_run (λ y. any_key arms y || f y) low n x e p.0 p.1)

-- the same for an enum, whose arms' keys are the numbers of its cases
pub key_of : (ks : List ℕ) (x : ℕ) → OneOf ks x → T (has_key ks x)
key_of ks x o = go (has_key ks x) (λ t. miss ks x t o)
  where
    go : (b : Bool) → (T (not b) → ⊥) → T b
    go true h = tt
    go false h = h tt

-- the rows of a table whose bytes are an arm each
abbrev pub arms_of : List Row → List (List ℕ)
arms_of [] = []
arms_of (r ∷ rs) = (r.code ∷ []) ∷ arms_of rs

-- where they are not met, the byte is looked for in the rows behind them
pub find_past : (A : Type 0) (o : Row) (rs ss : List Row) (c : ℕ) → NoneOf A (arms_of rs) c → find o (rs ++ ss) c ≡ find o ss c
unfolding find
find_past A o [] ss c n = refl
find_past A o (r ∷ rs) ss c n =
    let B = A × (c ≡ r.code → ⊥) in
    rw (ne_eqb c r.code (before B (arms_of rs) c n).1) (find_past B o rs ss c n)
