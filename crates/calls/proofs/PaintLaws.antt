-- The painting by rows is the painting: a row's codes are those under the layer, walking is going to each place, and rows one behind the other are all places.
use mathlib.Core.Path.{◌∙◌, ◌≡◌, ap, refl, sym}
use Prim.Native.Nat.{◌*◌, ◌+◌, ◌-◌, ◌<◌, ◌≤◌, suc, zero, ℕ}
use native.Mathlib.Nat.{add-zero}
use native.Mathlib.Omega.{arith}
use mathlib.Core.Bool.{Bool, ◌||◌, false, true}
use mathlib.Core.List.{List, ◌++◌, ◌∷◌}
use lib.ListN.{drop, get_or}
use lib.Seq.{get_or-drop}
use lib.Dec.{eqb}
use borrow.Author.Tests.{eqb-true, leb-true}
use Rattle.model.specs.Bytes.{list_from}
use Rattle.model.specs.State.{State}
use Rattle.model.specs.Screens.{cell_at, place_of, text_rows}
use Rattle.model.specs.Picture.{covered, painting, picture, picture_at, under}
use Rattle.model.proofs.Tests.{and_left, and_right, differ, elim_at}
use Rattle.model.proofs.ByteLaws.{get_or_list_from, list_from_append}
use Rattle.model.proofs.Places.{Shows, all, alone, at_place, picture-shows}
use Rattle.calls.proofs.ByRows.{below, by_all_rows, first_cell, one_screen, over, overlaid, row, rows_from}

-- the codes under the layer
module _ (st : State) (q : ℕ) where
  shows_line : one_screen st q ≡ true → (c : ℕ) → let s = st.settings in Shows s (suc q) c (cell_at s s.selected ((place_of s s.selected).top + suc q - 1) c)
  shows_line t c =
      let m : ℕ = st.settings.mode in
      go (eqb m 0) refl (eqb m 3) refl (and_left (eqb m 0 || eqb m 3) _ t) (leb-true _ _ (and_right (eqb m 0 || eqb m 3) _ t))
    where
      go : (x : Bool) → eqb st.settings.mode 0 ≡ x → (y : Bool) → eqb st.settings.mode 3 ≡ y → (x || y) ≡ true → suc q ≤ text_rows st.settings
          → let s = st.settings in Shows s (suc q) c (cell_at s s.selected ((place_of s s.selected).top + suc q - 1) c)
      go true e y f h l = all (eqb-true st.settings.mode 0 e) l refl
      go false e true f h l = alone (eqb-true st.settings.mode 3 f) l refl
      go false e false f h l = absurd (differ (sym h))

  below_at : (o : ℕ) → o < 80 → get_or (below st q) o 0 ≡ under st (suc q) (suc o)
  unfolding below cell_at
  below_at o l = elim_at (λ (xs : List ℕ). get_or xs o 0 ≡ under st (suc q) (suc o)) (one_screen st q) _ _
      (λ t. get_or-drop (first_cell st q) st.cells o 0 ∙ ap (λ (n : ℕ). get_or st.cells n 0) (omega arith) ∙ sym (picture-shows st (suc q) (suc o) _ (shows_line t (suc o))))
      (λ f. get_or_list_from (under st (suc q)) 80 1 o l ∙ ap (under st (suc q)) (omega arith))

-- walking
overlaid_is : (f : ℕ → ℕ) (n i : ℕ) (ms cs bs : List ℕ) → ((o : ℕ) → o < n → over (get_or ms o 0) (get_or cs o 0) (get_or bs o 0) ≡ f (i + o)) → overlaid n ms cs bs ≡ list_from f i n
unfolding overlaid
overlaid_is f zero i ms cs bs h = refl
overlaid_is f (suc n) i ms cs bs h =
    λ j. (h 0 (omega arith) ∙ ap f (add-zero i)) j
    ∷ overlaid_is f n (suc i) (drop 1 ms) (drop 1 cs) (drop 1 bs)
    (λ o l. (λ k. over (get_or-drop 1 ms o 0 k) (get_or-drop 1 cs o 0 k) (get_or-drop 1 bs o 0 k)) ∙ h (1 + o) (omega arith) ∙ ap f (omega arith)) j

-- rows
module _ (st : State) (unhidden : eqb st.settings.secret 1 ≡ false) where
  abbrev over_at : ℕ → ℕ → ℕ
  over_at q o = over (get_or (drop (80 * q) st.layer) o 0) (get_or (drop (640 + 80 * q) st.layer) o 0) (get_or (below st q) o 0)

  place_is : (q o : ℕ) → o < 80 → over_at q o ≡ picture_at st (suc q) (suc o)
  unfolding picture_at covered
  place_is q o l =
      let e : 80 * q + o ≡ 80 * (suc q - 1) + (suc o - 1) = omega arith in
      let e₂ : 640 + 80 * q + o ≡ 640 + (80 * (suc q - 1) + (suc o - 1)) = omega arith in
      (λ k. over ((get_or-drop (80 * q) st.layer o 0 ∙ ap (λ (n : ℕ). get_or st.layer n 0) e) k) ((get_or-drop (640 + 80 * q) st.layer o 0 ∙ ap (λ (n : ℕ). get_or st.layer n 0) e₂) k) (below_at st q o l k))
      ∙ elim_at (λ (n : ℕ). covered st (suc q) (suc o) (under st (suc q) (suc o)) ≡ n) (eqb st.settings.secret 1) _ _ (λ t. absurd (differ (sym t ∙ unhidden))) (λ f. refl)

  row_is : (q : ℕ) → row st q ≡ list_from (picture st) (q * 80) 80
  unfolding row picture
  row_is q = overlaid_is (picture st) 80 (q * 80) (drop (80 * q) st.layer) (drop (640 + 80 * q) st.layer) (below st q)
      (λ o l. at_place (λ r c. over_at q o ≡ picture_at st r c) q o (q * 80 + o) l refl (place_is q o l))

  rows_are : (q n : ℕ) → rows_from st q n ≡ list_from (picture st) (q * 80) (n * 80)
  unfolding rows_from
  rows_are q zero = refl
  rows_are q (suc n) =
      let e : suc q * 80 ≡ q * 80 + 80 = omega arith in
      let e₂ : 80 + n * 80 ≡ suc n * 80 = omega arith in
      (λ j. row_is q j ++ (rows_are (suc q) n ∙ ap (λ (i : ℕ). list_from (picture st) i (n * 80)) e) j)
      ∙ sym (list_from_append (picture st) (q * 80) 80 (n * 80)) ∙ ap (list_from (picture st) (q * 80)) e₂

pub painted-by_rows : (st : State) → painting st ≡ by_all_rows st
unfolding painting by_all_rows
painted-by_rows st = elim_at (λ (xs : List ℕ). painting st ≡ xs) (eqb st.settings.secret 1) _ _ (λ t. refl) (λ f. sym (rows_are st f 0 8))
