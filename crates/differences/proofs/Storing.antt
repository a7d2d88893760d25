-- The list that the first call leaves, by its stores: as many records as the answer counts, one by one from the list's start.
use mathlib.Core.Path.{◌≡◌, refl, sym, ap, ◌∙◌, subst}
use mathlib.Core.Bool.{Bool, true, false, cond}
use Prim.Native.Nat.{ℕ, zero, suc, ◌≤◌, ◌<◌}
use native.Mathlib.Nat.{not-suc-le-zero, le_of_suc-le-suc, le_refl}
use native.Mathlib.Omega.{arith}
use mathlib.Core.List.{List, [], ◌∷◌, ◌++◌}
use lib.ListN.{length, get_or, take, drop, set, length-set}
use lib.Dec.{ltb}
use Rattle.std.specs.Prelude.{Result, Err}
use borrow.Author.Tests.{le-ltb, lt-ltb, ltb-false}
use Rattle.differences.specs.declared.Difference.{Difference}
use Rattle.differences.specs.declared.Compared.{Compared}
use Rattle.differences.specs.declared.Refusal.{Refusal}
use Rattle.differences.specs.declared.Refusal.TheVariants.{StoreSize}
use Rattle.differences.specs.Differences.{differences}
use Rattle.differences.specs.Answers.{ComparePromised, answer_of, sized, refused_by, compared, list_after, nowhere}

-- ys after the first k stores of ds
abbrev pub stores : ℕ → List Difference → List Difference → List Difference
stores zero ds ys = ys
stores (suc k) ds ys = set (stores k ds ys) k (get_or ds k nowhere)

pub length_stores : (k : ℕ) (ds ys : List Difference) → length (stores k ds ys) ≡ length ys
length_stores zero ds ys = refl
length_stores (suc k) ds ys = length-set (stores k ds ys) k (get_or ds k nowhere) ∙ length_stores k ds ys

-- one store more
pub stores_next : (k : ℕ) (ds ys zs : List Difference) (d : Difference) → zs ≡ stores k ds ys → get_or ds k nowhere ≡ d → set zs k d ≡ stores (suc k) ds ys
stores_next k ds ys zs d e h = ap (λ (l : List Difference). set l k d) e ∙ ap (λ (x : Difference). set (stores k ds ys) k x) (sym h)

store : (ds ys : List Difference) (i : ℕ) → i < length ds → i < length ys → set (take i ds ++ drop i ys) i (get_or ds i nowhere) ≡ take (suc i) ds ++ drop (suc i) ys
store [] ys i h k = absurd (not-suc-le-zero h)
store (d ∷ ds) [] i h k = absurd (not-suc-le-zero k)
store (d ∷ ds) (y ∷ ys) zero h k = refl
store (d ∷ ds) (y ∷ ys) (suc i) h k = ap (λ (l : List Difference). d ∷ l) (store ds ys i (le_of_suc-le-suc h) (le_of_suc-le-suc k))

stored : (k : ℕ) (ds ys : List Difference) → k ≤ length ds → k ≤ length ys → stores k ds ys ≡ take k ds ++ drop k ys
stored zero ds ys h j = refl
stored (suc k) ds ys h j = ap (λ (l : List Difference). set l k (get_or ds k nowhere)) (stored k ds ys (omega (arith, h)) (omega (arith, j))) ∙ store ds ys k h j

take_all : (ds : List Difference) → take (length ds) ds ≡ ds
take_all [] = refl
take_all (d ∷ ds) = ap (λ (l : List Difference). d ∷ l) (take_all ds)

-- the answer by its two tests: the screens' sizes, and a list that is too short
abbrev answer : Bool → Bool → ℕ → Compared
answer size short n = cond size (cond short (refused_by 18) (record { number = 0; count = n })) (refused_by 1)

within : (size short : Bool) (n room : ℕ) → (short ≡ false → n ≤ room) → (answer size short n).count ≤ room
within true true n room h = omega arith
within true false n room h = h refl
within false short n room h = omega arith

-- no more records are counted than the list has
pub at_most : {a b : List ℕ} {list list' : List Difference} {r : Compared} → ComparePromised a b list r list' → r.count ≤ length list
unfolding compared
at_most {a} {b} {list} h =
    subst (λ (z : Compared). z.count ≤ length list) (sym h.answer_is) (within (sized a b) (ltb (length list) (length (differences a b))) (length (differences a b)) (length list) (λ e. ltb-false _ _ e))

abbrev counting : ℕ → Compared
counting n = record { number = 0; count = n }

-- the call refused for a screen's size, and for the list's
pub refused_size : (a b : List ℕ) (ys : List Difference) → sized a b ≡ false → {r : Result ℕ Refusal} → r ≡ Err StoreSize → ComparePromised a b ys (answer_of r) ys
unfolding compared list_after
refused_size a b ys size e = record { answer_is = ap answer_of e ∙ simp size; list_is = simp size }

pub refused_short : (a b : List ℕ) (ys : List Difference) → sized a b ≡ true → length ys < length (differences a b) → ComparePromised a b ys (refused_by 18) ys
unfolding compared list_after
refused_short a b ys size h =
    let short = lt-ltb (length ys) (length (differences a b)) h in
    record { answer_is = simp (size, short); list_is = simp (size, short) }

-- the call served: all that were counted are stored
pub all_stored : (a b : List ℕ) (ys : List Difference) {zs : List Difference} {n : ℕ} → sized a b ≡ true → length (differences a b) ≤ length ys → n ≡ length (differences a b) → zs ≡ stores n (differences a b) ys
    → ComparePromised a b ys (record { number = 0; count = n }) zs
unfolding compared list_after
all_stored a b ys {zs} {n} size h e t =
    let ds = differences a b in
    let enough = le-ltb (length ys) (length ds) h in
    let all : zs ≡ ds ++ drop (length ds) ys = t ∙ ap (λ (k : ℕ). stores k ds ys) e ∙ stored (length ds) ds ys (le_refl _) h ∙ ap (λ (l : List Difference). l ++ drop (length ds) ys) (take_all ds) in
    record { answer_is = rw (size, enough) (ap counting e); list_is = all ∙ simp (size, enough) }
