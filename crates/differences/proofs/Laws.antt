-- One place more of the list and of the search, for the loops that look through the screens; and the second call's promise of its number and
-- values, from the answer that the search gives.
use mathlib.Core.Path.{◌≡◌, refl, sym, ap, ◌∙◌}
use mathlib.Core.Bool.{Bool, true, false, cond}
use Prim.Native.Nat.{ℕ, zero, suc, ◌+◌, ◌-◌, ◌≤◌, ◌<◌}
use native.Mathlib.Numerals.{add-one}
use native.Mathlib.Omega.{arith}
use mathlib.Core.List.{List, [], ◌∷◌}
use lib.ListN.{length, get_or}
use lib.Dec.{eqb}
use Rattle.std.specs.Prelude.{Option, Some, None, Result, Ok, Err, not}
use borrow.Author.Tests.{eq-eqb, lt-ltb, le-ltb}
use Rattle.model.proofs.Tests.{differ}
use Rattle.differences.specs.declared.Difference.{Difference}
use Rattle.differences.specs.declared.Refusal.{Refusal}
use Rattle.differences.specs.declared.Refusal.TheVariants.{StoreSize}
use Rattle.differences.specs.Differences.{record_at, listed, differences, sought}
use Rattle.differences.specs.Answers.{FirstPromised, sized, found_at, first_of, first_values, head_of, nowhere, values_of}

-- what of the 640 places is left to look through from p on: the list, and the place that the search finds
abbrev pub list_from : ℕ → List ℕ → List ℕ → List Difference
list_from p a b = listed (640 - p) p a b

abbrev pub place_from : ℕ → List ℕ → List ℕ → ℕ
place_from p a b = sought (640 - p) p a b

-- whether a place differs, as a test tells it
pub other : {r t : Bool} → r ≡ not t → r ≡ true → t ≡ false
other {r} {t = true} e h = absurd (differ (sym h ∙ e))
other {r} {t = false} e h = refl

pub same : {r t : Bool} → r ≡ not t → r ≡ false → t ≡ true
same {r} {t = true} e h = refl
same {r} {t = false} e h = absurd (differ (sym e ∙ h))

pub list_start : (a b : List ℕ) → list_from 0 a b ≡ differences a b
unfolding differences
list_start a b = refl

list_step : (p : ℕ) (a b : List ℕ) → p < 640 → list_from p a b ≡ cond (eqb (get_or a p 0) (get_or b p 0)) (list_from (p + 1) a b) (record_at a b p ∷ list_from (p + 1) a b)
unfolding listed
list_step p a b h =
    let e : 640 - p ≡ suc (640 - (p + 1)) = omega (arith, h) in
    ap (λ (k : ℕ). listed k p a b) e ∙ ap (λ (j : ℕ). cond (eqb (get_or a p 0) (get_or b p 0)) (listed (640 - (p + 1)) j a b) (record_at a b p ∷ listed (640 - (p + 1)) j a b)) (sym (add-one p))

pub list_same : (p : ℕ) (a b : List ℕ) → p < 640 → eqb (get_or a p 0) (get_or b p 0) ≡ true → list_from p a b ≡ list_from (p + 1) a b
list_same p a b h e = list_step p a b h ∙ ap (λ (t : Bool). cond t (list_from (p + 1) a b) (record_at a b p ∷ list_from (p + 1) a b)) e

pub list_other : (p : ℕ) (a b : List ℕ) → p < 640 → eqb (get_or a p 0) (get_or b p 0) ≡ false → list_from p a b ≡ record_at a b p ∷ list_from (p + 1) a b
list_other p a b h e = list_step p a b h ∙ ap (λ (t : Bool). cond t (list_from (p + 1) a b) (record_at a b p ∷ list_from (p + 1) a b)) e

pub list_end : (p : ℕ) (a b : List ℕ) → 640 ≤ p → p ≤ 640 → list_from p a b ≡ []
unfolding listed
list_end p a b h k = let e : 640 - p ≡ 0 = omega (arith, h) in ap (λ (m : ℕ). listed m p a b) e

place-step : (p : ℕ) (a b : List ℕ) → p < 640 → place_from p a b ≡ cond (eqb (get_or a p 0) (get_or b p 0)) (place_from (p + 1) a b) p
unfolding sought
place-step p a b h =
    let e : 640 - p ≡ suc (640 - (p + 1)) = omega (arith, h) in
    ap (λ (k : ℕ). sought k p a b) e ∙ ap (λ (j : ℕ). cond (eqb (get_or a p 0) (get_or b p 0)) (sought (640 - (p + 1)) j a b) p) (sym (add-one p))

pub place_same : (p : ℕ) (a b : List ℕ) → p < 640 → eqb (get_or a p 0) (get_or b p 0) ≡ true → place_from p a b ≡ place_from (p + 1) a b
place_same p a b h e = place-step p a b h ∙ ap (λ (t : Bool). cond t (place_from (p + 1) a b) p) e

pub place_here : (p : ℕ) (a b : List ℕ) → p < 640 → eqb (get_or a p 0) (get_or b p 0) ≡ false → place_from p a b ≡ p
place_here p a b h e = place-step p a b h ∙ ap (λ (t : Bool). cond t (place_from (p + 1) a b) p) e

pub place_end : (p : ℕ) (a b : List ℕ) → 640 ≤ p → place_from p a b ≡ p
unfolding sought
place_end p a b h = let e : 640 - p ≡ 0 = omega (arith, h) in ap (λ (m : ℕ). sought m p a b) e

-- the search goes on from the same place under another name
pub moved : (p q o : ℕ) (a b : List ℕ) → p ≡ q → place_from p a b ≡ o → place_from q a b ≡ o
moved p q o a b e h = ap (λ (j : ℕ). place_from j a b) (sym e) ∙ h

-- the second call's answer by what was found
abbrev pub answered : Option Difference → Result (Option Difference) Refusal
answered found = Ok found

abbrev pub err : Refusal → Result (Option Difference) Refusal
err e = Err e

-- the second call's answer where a screen has not its size, and where both have
pub first_refused : (a b : List ℕ) → sized a b ≡ false → first_of a b ≡ Err StoreSize
unfolding first_of
first_refused a b e = simp e

pub first_of_lem : (a b : List ℕ) → length a ≡ 640 → length b ≡ 640 → first_of a b ≡ found_at a b (place_from 0 a b)
unfolding first_of sized
first_of_lem a b ha hb = simp (eq-eqb _ _ ha, eq-eqb _ _ hb)

first_sized : (a b : List ℕ) → sized a b ≡ true → first_of a b ≡ found_at a b (place_from 0 a b)
unfolding first_of
first_sized a b e = simp e

pub first_here : (p : ℕ) (a b : List ℕ) → sized a b ≡ true → p < 640 → place_from p a b ≡ place_from 0 a b → eqb (get_or a p 0) (get_or b p 0) ≡ false → Ok (Some (record_at a b p)) ≡ first_of a b
first_here p a b size h e t =
    sym (ap (λ (x : Bool). answered (cond x (Some (record_at a b p)) None)) (lt-ltb p 640 h)) ∙ ap (found_at a b) (sym (place_here p a b h t) ∙ e) ∙ sym (first_sized a b size)

pub first_none : (p : ℕ) (a b : List ℕ) → sized a b ≡ true → 640 ≤ p → place_from p a b ≡ place_from 0 a b → Ok None ≡ first_of a b
first_none p a b size h e =
    sym (ap (λ (x : Bool). answered (cond x (Some (record_at a b p)) None)) (le-ltb p 640 h)) ∙ ap (found_at a b) (sym (place_end p a b h) ∙ e) ∙ sym (first_sized a b size)

-- the search finds the head of the list, over n places from p on
head_found : (n p : ℕ) (a b : List ℕ) → p + n ≡ 640 → values_of (found_at a b (sought n p a b)) ≡ head_of (listed n p a b)
unfolding sought listed
head_found zero p a b e = rw (le-ltb p 640 (omega (arith, e)))
head_found (suc n) p a b e = go (eqb (get_or a p 0) (get_or b p 0)) (head_found n (suc p) a b (omega (arith, e)))
  where
    go : (t : Bool) → values_of (found_at a b (sought n (suc p) a b)) ≡ head_of (listed n (suc p) a b)
        → values_of (found_at a b (cond t (sought n (suc p) a b) p)) ≡ head_of (cond t (listed n (suc p) a b) (record_at a b p ∷ listed n (suc p) a b))
    go true later = later
    go false later = rw (lt-ltb p 640 (omega (arith, e)))

values_first : (a b : List ℕ) → values_of (first_of a b) ≡ first_values a b
unfolding first_of first_values differences
values_first a b = go (sized a b)
  where
    go : (t : Bool) → values_of (cond t (found_at a b (sought 640 0 a b)) (Err StoreSize)) ≡ cond t (head_of (listed 640 0 a b)) (record { number = 1; found = 0; difference = nowhere })
    go true = head_found 640 0 a b refl
    go false = refl

pub first_promised : (a b : List ℕ) {r : Result (Option Difference) Refusal} → r ≡ first_of a b → (r ≡ first_of a b) × FirstPromised a b (values_of r)
first_promised a b e = let f = ap values_of e in (e, record { found_is = f; values_are = f ∙ values_first a b })
