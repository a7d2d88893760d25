-- The list by the search: its k-th record is that of the place which the search finds after k finds.
use mathlib.Core.Path.{◌≡◌, refl, sym, ap, ◌∙◌}
use mathlib.Core.Bool.{Bool, true, false, cond}
use Prim.Native.Nat.{ℕ, zero, suc, ◌+◌, ◌-◌, ◌≤◌, ◌<◌}
use native.Mathlib.Nat.{add-zero}
use native.Mathlib.Numerals.{add-one}
use native.Mathlib.Omega.{arith}
use mathlib.Core.List.{List, [], ◌∷◌}
use lib.ListN.{length, get_or, drop, length-drop}
use lib.Dec.{eqb}
use Rattle.differences.specs.declared.Difference.{Difference}
use Rattle.differences.specs.Differences.{record_at, listed, differences, sought}
use Rattle.differences.specs.Answers.{nowhere}
use Rattle.differences.proofs.Laws.{list_from, place_from, list_start}

-- of n places from p on, q is the first that differs, and ds is its record with those behind it
pub record Next (n p q : ℕ) (a b : List ℕ) (ds : List Difference) : Type 0 where
  pub from : p ≤ q
  pub within : q < p + n
  pub differs : eqb (get_or a q 0) (get_or b q 0) ≡ false
  pub is : ds ≡ record_at a b q ∷ listed (p + n - suc q) (suc q) a b

next : (n p : ℕ) (a b : List ℕ) → 0 < length (listed n p a b) → Next n p (sought n p a b) a b (listed n p a b)
unfolding listed sought
next zero p a b h = absurd (omega (arith, h))
next (suc n) p a b h = go (next n (suc p) a b) (eqb (get_or a p 0) (get_or b p 0)) refl h
  where
    go : (0 < length (listed n (suc p) a b) → Next n (suc p) (sought n (suc p) a b) a b (listed n (suc p) a b)) → (t : Bool) → eqb (get_or a p 0) (get_or b p 0) ≡ t → 0 < length (cond t (listed n (suc p) a b) (record_at a b p ∷ listed n (suc p) a b)) → Next (suc n) p (cond t (sought n (suc p) a b) p) a b (cond t (listed n (suc p) a b) (record_at a b p ∷ listed n (suc p) a b))
    go behind true e k =
        let later = behind k in
        let q = sought n (suc p) a b in
        let left : suc p + n - suc q ≡ p + suc n - suc q = omega arith in
        record { from = omega (arith, later.from); within = omega (arith, later.within); differs = later.differs; is = later.is ∙ ap (λ (m : ℕ). record_at a b q ∷ listed m (suc q) a b) left }
    go behind false e k =
        let left : n ≡ p + suc n - suc p = omega arith in
        record { from = omega arith; within = omega arith; differs = e; is = ap (λ (m : ℕ). record_at a b p ∷ listed m (suc p) a b) left }

-- the place behind the first k finds, where the search goes on
abbrev pub reached : ℕ → List ℕ → List ℕ → ℕ
reached zero a b = 0
reached (suc k) a b = place_from (reached k a b) a b + 1

-- what is left of a list, taken apart
taken : (k : ℕ) (xs ys : List Difference) (x : Difference) → drop k xs ≡ x ∷ ys → (get_or xs k nowhere ≡ x) × (drop (suc k) xs ≡ ys)
taken zero xs ys x e = (ap (λ (l : List Difference). get_or l 0 nowhere) e, ap (drop 1) e)
taken (suc k) [] ys x e = absurd (omega (arith, ap length e))
taken (suc k) (z ∷ xs) ys x e = taken k xs ys x e

-- what stands after k finds
pub record Reached (k : ℕ) (a b : List ℕ) : Type 0 where
  pub on : reached k a b ≤ 640
  pub left : list_from (reached k a b) a b ≡ drop k (differences a b)

-- the next find, where records are left
pub record Found (k : ℕ) (a b : List ℕ) : Type 0 where
  pub from : reached k a b ≤ place_from (reached k a b) a b
  pub within : place_from (reached k a b) a b < 640
  pub differs : eqb (get_or a (place_from (reached k a b) a b) 0) (get_or b (place_from (reached k a b) a b) 0) ≡ false
  pub is : get_or (differences a b) k nowhere ≡ record_at a b (place_from (reached k a b) a b)
  pub behind : list_from (reached (suc k) a b) a b ≡ drop (suc k) (differences a b)

find : (k : ℕ) (a b : List ℕ) → Reached k a b → k < length (differences a b) → Found k a b
find k a b r h =
    let p = reached k a b in
    let q = place_from p a b in
    let some : 0 < length (list_from p a b) = omega (arith, h, ap length r.left, length-drop k (differences a b)) in
    let n = next (640 - p) p a b some in
    let less : q < 640 = omega (arith, n.within, r.on) in
    let rest : p + (640 - p) - suc q ≡ 640 - (q + 1) = omega (arith, r.on) in
    let e : drop k (differences a b) ≡ record_at a b q ∷ list_from (q + 1) a b = sym r.left ∙ n.is ∙ ap (λ (m : ℕ). record_at a b q ∷ listed m (suc q) a b) rest ∙ ap (λ (j : ℕ). record_at a b q ∷ listed (640 - (q + 1)) j a b) (sym (add-one q)) in
    let apart = taken k (differences a b) (list_from (q + 1) a b) (record_at a b q) e in
    record { from = n.from; within = less; differs = n.differs; is = apart.0; behind = sym apart.1 }

pub reach : (k : ℕ) (a b : List ℕ) → k ≤ length (differences a b) → Reached k a b
reach zero a b h = record { on = omega arith; left = list_start a b }
reach (suc k) a b h =
    let f = find k a b (reach k a b (omega (arith, h))) h in
    record { on = omega (arith, f.within); left = f.behind }

pub finds : (k : ℕ) (a b : List ℕ) → k < length (differences a b) → Found k a b
finds k a b h = find k a b (reach k a b (omega (arith, h))) h

-- the search never goes back
pub onwards : (d i k : ℕ) (a b : List ℕ) → k ≡ i + d → k < length (differences a b) → reached i a b ≤ reached k a b
onwards zero i k a b e h = omega (arith, ap (λ (j : ℕ). reached j a b) (e ∙ add-zero i))
onwards (suc d) i k a b e h =
    let step : k ≡ suc (i + d) = omega (arith, e) in
    omega (arith, onwards d i (i + d) a b refl (omega (arith, h, step)), (finds (i + d) a b (omega (arith, h, step))).from, ap (λ (j : ℕ). reached j a b) step)

-- no more records than places
listed_within : (n p : ℕ) (a b : List ℕ) → length (listed n p a b) ≤ n
unfolding listed
listed_within zero p a b = omega arith
listed_within (suc n) p a b = go (listed_within n (suc p) a b) (eqb (get_or a p 0) (get_or b p 0))
  where
    go : length (listed n (suc p) a b) ≤ n → (t : Bool) → length (cond t (listed n (suc p) a b) (record_at a b p ∷ listed n (suc p) a b)) ≤ suc n
    go behind true = omega (arith, behind)
    go behind false = omega (arith, behind)

pub listed_at_most : (a b : List ℕ) → length (differences a b) ≤ 640
unfolding differences
listed_at_most a b = listed_within 640 0 a b
