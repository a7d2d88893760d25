-- The examples of specs/Examples. The lists are worked out by walking both screens once, where the definitions go to each place from the start; that is the
-- same list and the same place. The calls' answers are then worked out from these, for any screens with such differences.
use mathlib.Core.Path.{◌∙◌, ◌≡◌, ap, refl, sym}
use Prim.Native.Nat.{ℕ, suc, zero, ◌%◌, ◌+◌, ◌/◌}
use native.Mathlib.Nat.{add-zero}
use native.Mathlib.Numerals.{add-one}
use mathlib.Core.Bool.{cond, true}
use mathlib.Core.List.{List, [], ◌∷◌}
use lib.ListN.{drop, get_or, replicate}
use lib.Seq.{drop-drop, get_or-drop}
use lib.Dec.{eqb}
use Rattle.differences.specs.declared.Difference.{Difference}
use Rattle.std.specs.Prelude.{None, Ok}
use Rattle.differences.specs.Differences.{listed, differences, sought}
use Rattle.differences.specs.Answers.{sized, compared, list_after, first_of, nowhere, refused_by}
use Rattle.differences.specs.Examples.{Examples, blank, counting, place, three}

-- the next place of a screen is the next byte
code_here : (p : ℕ) (a : List ℕ) → get_or a p 0 ≡ get_or (drop p a) 0 0
code_here p a = ap (λ (k : ℕ). get_or a k 0) (sym (add-zero p)) ∙ sym (get_or-drop p a 0 0)

walk_on : (p : ℕ) (a : List ℕ) → drop (suc p) a ≡ drop 1 (drop p a)
walk_on p a = ap (λ (k : ℕ). drop k a) (sym (add-one p)) ∙ sym (drop-drop 1 p a)

-- the list
unfoldable walked : ℕ → ℕ → List ℕ → List ℕ → List Difference
walked zero p a b = []
walked (suc n) p a b =
    let x = get_or a 0 0 in
    let y = get_or b 0 0 in
    let rest = walked n (suc p) (drop 1 a) (drop 1 b) in
    cond (eqb x y) rest (place (p / 80 + 1) (p % 80 + 1) x y ∷ rest)

walked_is : (n p : ℕ) (a b : List ℕ) → listed n p a b ≡ walked n p (drop p a) (drop p b)
unfolding listed walked
walked_is zero p a b = refl
walked_is (suc n) p a b =
    let e = walked_is n (suc p) a b ∙ (λ i. walked n (suc p) (walk_on p a i) (walk_on p b i)) in
    λ i. cond (eqb (code_here p a i) (code_here p b i)) (e i) (place (p / 80 + 1) (p % 80 + 1) (code_here p a i) (code_here p b i) ∷ e i)

list_is : (a b : List ℕ) → differences a b ≡ walked 640 0 a b
unfolding differences
list_is a b = walked_is 640 0 a b

-- the search
unfoldable found : ℕ → ℕ → List ℕ → List ℕ → ℕ
found zero p a b = p
found (suc n) p a b = cond (eqb (get_or a 0 0) (get_or b 0 0)) (found n (suc p) (drop 1 a) (drop 1 b)) p

found_is : (n p : ℕ) (a b : List ℕ) → sought n p a b ≡ found n p (drop p a) (drop p b)
unfolding sought found
found_is zero p a b = refl
found_is (suc n) p a b = λ i. cond (eqb (code_here p a i) (code_here p b i)) ((found_is n (suc p) a b ∙ (λ j. found n (suc p) (walk_on p a j) (walk_on p b j))) i) p

-- the answers, of three differences and of none
module _ (a b : List ℕ) (whole : sized a b ≡ true) where
  abbrev Three : Type 0
  Three = differences a b ≡ place 1 80 32 65 ∷ place 2 1 32 66 ∷ place 8 80 32 255 ∷ []

  three_in_two : Three → compared a b 2 ≡ refused_by 18
  unfolding compared
  three_in_two e = rw (whole, e)

  three_in_three : Three → compared a b 3 ≡ counting 3
  unfolding compared
  three_in_three e = rw (whole, e)

  two_stay : Three → list_after a b (replicate 2 nowhere) ≡ replicate 2 nowhere
  unfolding list_after compared
  two_stay e = rw (whole, e)

  two_behind : Three → list_after a b (replicate 5 (place 7 7 7 7)) ≡ place 1 80 32 65 ∷ place 2 1 32 66 ∷ place 8 80 32 255 ∷ place 7 7 7 7 ∷ place 7 7 7 7 ∷ []
  unfolding list_after compared
  two_behind e = rw (whole, e)

  none_counted : differences a b ≡ [] → compared a b 0 ≡ counting 0
  unfolding compared
  none_counted e = rw (whole, e)

  none_first : sought 640 0 a b ≡ 640 → first_of a b ≡ Ok None
  unfolding first_of
  none_first e = rw (whole, e)

pub examples : Examples
unfolding walked found sought sized compared first_of
examples =
    let three_places : differences blank three ≡ place 1 80 32 65 ∷ place 2 1 32 66 ∷ place 8 80 32 255 ∷ [] = list_is blank three ∙ refl in
    record {
      one_place = list_is blank _ ∙ refl;
      one_first = refl;
      over_the_edge = three_places;
      codes_in_order = refl;
      equal = none_counted blank blank refl (list_is blank blank ∙ refl);
      none = none_first blank blank refl (found_is 640 0 blank blank ∙ refl);
      too_short = three_in_two blank three refl three_places;
      untouched = two_stay blank three refl three_places;
      just_enough = three_in_three blank three refl three_places;
      beyond_stays = two_behind blank three refl three_places;
      size_before_room = refl;
      second_size = refl;
    }
