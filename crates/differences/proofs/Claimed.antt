-- The claims of specs/Claims: every difference appears once and nothing else, by rows; the first is the list's head, and there is none exactly
-- when the screens are equal.
use mathlib.Core.Path.{◌≡◌, refl, sym, ap, ◌∙◌}
use mathlib.Core.Bool.{Bool, true, false, cond}
use Prim.Native.Nat.{ℕ, zero, suc, ◌+◌, ◌-◌, ◌<◌}
use native.Mathlib.Nat.{add-zero, zero-add, le_of_suc-le-suc, not-suc-le-zero}
use native.Mathlib.Omega.{arith}
use mathlib.Core.List.{List, [], ◌∷◌}
use lib.ListN.{length, get_or}
use lib.Dec.{eqb}
use Rattle.std.specs.Prelude.{Option, Some, None, Result, Ok, Err}
use borrow.Author.Tests.{eq-eqb, eqb-true, le-ltb, lt-ltb, ne_eqb}
use Rattle.model.proofs.Tests.{differ}
use Rattle.differences.specs.declared.Difference.{Difference}
use Rattle.differences.specs.declared.Refusal.{Refusal}
use Rattle.differences.specs.Differences.{record_at, listed, differences, sought}
use Rattle.differences.specs.Answers.{nowhere, first_of}
use Rattle.differences.specs.Claims.{Comparison, EachOnce, FirstOrNone, nth, place_of}
use Rattle.differences.proofs.Laws.{answered, place_from, first_of_lem}
use Rattle.differences.proofs.Reaching.{finds, onwards, reached}

-- a place that differs has its record in the list of the places from p on
member : (n p j : ℕ) (a b : List ℕ) → j < n → eqb (get_or a (p + j) 0) (get_or b (p + j) 0) ≡ false → (k : ℕ) × ((k < length (listed n p a b)) × (get_or (listed n p a b) k nowhere ≡ record_at a b (p + j)))
unfolding listed
member zero p j a b h e = absurd (not-suc-le-zero h)
member (suc n) p zero a b h e = here (eqb (get_or a p 0) (get_or b p 0)) refl
  where
    here : (t : Bool) → eqb (get_or a p 0) (get_or b p 0) ≡ t → (k : ℕ) × ((k < length (cond t (listed n (suc p) a b) (record_at a b p ∷ listed n (suc p) a b))) × (get_or (cond t (listed n (suc p) a b) (record_at a b p ∷ listed n (suc p) a b)) k nowhere ≡ record_at a b (p + 0)))
    here true s = absurd (differ (sym s ∙ ap (λ (q : ℕ). eqb (get_or a q 0) (get_or b q 0)) (sym (add-zero p)) ∙ e))
    here false s = (0, (omega arith, ap (record_at a b) (sym (add-zero p))))
member (suc n) p (suc j) a b h e = go (member n (suc p) j a b (le_of_suc-le-suc h) (ap (λ (q : ℕ). eqb (get_or a q 0) (get_or b q 0)) same ∙ e)) (eqb (get_or a p 0) (get_or b p 0))
  where
    same : suc p + j ≡ p + suc j
    same = omega arith

    go : (k : ℕ) × ((k < length (listed n (suc p) a b)) × (get_or (listed n (suc p) a b) k nowhere ≡ record_at a b (suc p + j))) → (t : Bool)
        → (k : ℕ) × ((k < length (cond t (listed n (suc p) a b) (record_at a b p ∷ listed n (suc p) a b))) × (get_or (cond t (listed n (suc p) a b) (record_at a b p ∷ listed n (suc p) a b)) k nowhere ≡ record_at a b (p + suc j)))
    go m true = (m.0, (m.1.0, m.1.1 ∙ ap (record_at a b) same))
    go m false = (suc m.0, (omega (arith, m.1.0), m.1.1 ∙ ap (record_at a b) same))

in_list : (a b : List ℕ) (p : ℕ) → p < 640 → eqb (get_or a p 0) (get_or b p 0) ≡ false → (k : ℕ) × ((k < length (differences a b)) × (nth a b k ≡ record_at a b p))
unfolding differences
in_list a b p h e =
    let at : eqb (get_or a (0 + p) 0) (get_or b (0 + p) 0) ≡ false = ap (λ (q : ℕ). eqb (get_or a q 0) (get_or b q 0)) (zero-add p) ∙ e in
    let m = member 640 0 p a b h at in
    (m.0, (m.1.0, m.1.1 ∙ ap (record_at a b) (zero-add p)))

-- a record names its place
names : (a b : List ℕ) (p : ℕ) → place_of (record_at a b p) ≡ p
names a b p = omega arith

each_once : (a b : List ℕ) → EachOnce a b
each_once a b = record {
  appears = λ p h d. in_list a b p h (ne_eqb _ _ d);
  nothing_else = λ k h.
      let f = finds k a b h in
      (place_from (reached k a b) a b, (f.within, ((λ e. differ (sym (eq-eqb _ _ e) ∙ f.differs)), f.is)));
  by_rows = λ i k i<k h. rows i k i<k h;
}
  where
    rows : (i k : ℕ) → i < k → k < length (differences a b) → place_of (nth a b i) < place_of (nth a b k)
    rows i k i<k h =
        let f = finds i a b (omega (arith, i<k, h)) in
        let g = finds k a b h in
        omega (arith, ap place_of f.is ∙ names a b (place_from (reached i a b) a b), ap place_of g.is ∙ names a b (place_from (reached k a b) a b), onwards (k - suc i) (suc i) k a b (omega (arith, i<k)) h, g.from)

-- no record, no place
unfound : (n p : ℕ) (a b : List ℕ) → length (listed n p a b) ≡ 0 → sought n p a b ≡ p + n
unfolding listed sought
unfound zero p a b e = sym (add-zero p)
unfound (suc n) p a b e = go (unfound n (suc p) a b) (eqb (get_or a p 0) (get_or b p 0)) e
  where
    go : (length (listed n (suc p) a b) ≡ 0 → sought n (suc p) a b ≡ suc p + n) → (t : Bool) → length (cond t (listed n (suc p) a b) (record_at a b p ∷ listed n (suc p) a b)) ≡ 0 → cond t (sought n (suc p) a b) p ≡ p + suc n
    go behind true k = omega (arith, behind k)
    go behind false k = absurd (omega (arith, k))

same_lists : (a b : List ℕ) → length a ≡ length b → ((p : ℕ) → p < length a → get_or a p 0 ≡ get_or b p 0) → a ≡ b
same_lists [] [] e h = refl
same_lists [] (y ∷ b) e h = absurd (omega (arith, e))
same_lists (x ∷ a) [] e h = absurd (omega (arith, e))
same_lists (x ∷ a) (y ∷ b) e h = λ i. h 0 (omega arith) i ∷ same_lists a b (omega (arith, e)) (λ p l. h (suc p) (omega (arith, l))) i

abbrev is_at : Result (Option Difference) Refusal → ℕ
is_at (Ok (Some d)) = 1
is_at (Ok None) = 0
is_at (Err e) = 0

none : (n : ℕ) → (0 < n → ⊥) → n ≡ 0
none zero h = refl
none (suc n) h = absurd (h (omega arith))

module _ (a b : List ℕ) (ha : length a ≡ 640) (hb : length b ≡ 640) where
  head : 0 < length (differences a b) → first_of a b ≡ Ok (Some (nth a b 0))
  head h =
      let f = finds 0 a b h in
      first_of_lem a b ha hb ∙ ap (λ (t : Bool). answered (cond t (Some (record_at a b (place_from 0 a b))) None)) (lt-ltb _ _ f.within) ∙ ap (λ (d : Difference). answered (Some d)) (sym f.is)

  empty : length (differences a b) ≡ 0 → first_of a b ≡ Ok None
  unfolding differences
  empty e =
      let end : place_from 0 a b ≡ 640 = unfound 640 0 a b e in
      first_of_lem a b ha hb ∙ ap (λ (t : Bool). answered (cond t (Some (record_at a b (place_from 0 a b))) None)) (le-ltb (place_from 0 a b) 640 (omega (arith, end)))

  listed_none : first_of a b ≡ Ok None → length (differences a b) ≡ 0
  listed_none e = none _ (λ h. absurd (omega (arith, ap is_at (sym (head h) ∙ e))))

  alike : length (differences a b) ≡ 0 → (p : ℕ) → p < 640 → (t : Bool) → eqb (get_or a p 0) (get_or b p 0) ≡ t → get_or a p 0 ≡ get_or b p 0
  alike e p l true s = eqb-true _ _ s
  alike e p l false s = absurd (omega (arith, e, (in_list a b p l s).1.0))

  first_or_none : FirstOrNone a b
  first_or_none = record {
    none_of_equal = λ e. empty (none _ (λ h. differ (sym (eq-eqb _ _ (ap (λ (l : List ℕ). get_or l (place_from (reached 0 a b) a b) 0) e)) ∙ (finds 0 a b h).differs)));
    equal_of_none = λ e. same_lists a b (ha ∙ sym hb) (λ p l. alike (listed_none e) p (omega (arith, l, ha)) _ refl);
    first_is_head = head;
    empty_is_none = empty;
  }

pub comparison : Comparison
comparison = (each_once, first_or_none)
