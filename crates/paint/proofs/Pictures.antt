-- The whole picture: blank while secret is on, else what the view shows in the rows of text and the key texts behind them,
-- with the layer laid over all.
use mathlib.Core.Path.{◌∙◌, ◌≡◌, ap, refl, sym}
use Prim.Native.Nat.{◌%◌, ◌*◌, ◌+◌, ◌-◌, ◌/◌, ◌<◌, ℕ}
use native.Mathlib.Omega.{arith}
use mathlib.Core.Bool.{Bool, cond, false, true}
use mathlib.Core.List.{List}
use lib.ListN.{get_or, get_or-replicate, length, length-replicate, replicate}
use lib.Dec.{eqb}
use borrow.Author.Tests.{eq-eqb, eqb-true}
use Rattle.model.specs.declared.Settings.{Settings}
use Rattle.model.specs.Bytes.{list_from, put}
use Rattle.model.specs.State.{State, state}
use Rattle.model.specs.Screens.{text_rows}
use Rattle.model.specs.Sound.{Sound, array_ranges}
use Rattle.model.specs.Picture.{covered, painting, picture, picture_at, under}
use Rattle.model.proofs.KeyLaws.{key_row, rows_plain, rows_shown}
use Rattle.model.proofs.Tests.{differ, elim_at}
use Rattle.model.proofs.ByteLaws.{length_list_from, same_list_from}
use Rattle.store.proofs.Laws.{put_all}
use Rattle.views.specs.declared.View.{View}
use Rattle.views.specs.Panes.{ViewOf, seen}
use Rattle.paint.specs.Shown.{below, laid}
use Rattle.views.specs.Painted.{painted}
use Rattle.views.proofs.Painted.{listed, painted_next, put_listed}
use Rattle.paint.proofs.Laid.{painted_over}

-- "32 everywhere while secret is on"
secret_at : (st : State) → eqb st.settings.secret 1 ≡ true → (p : ℕ) → 32 ≡ picture st p
unfolding picture picture_at
secret_at st e p = elim_at (λ (x : ℕ). 32 ≡ x) (eqb st.settings.secret 1) _ _ (λ t. refl) (λ f. absurd (differ (sym e ∙ f)))

-- so the whole picture
secret_picture : (st : State) → eqb st.settings.secret 1 ≡ true → replicate 640 32 ≡ painting st
unfolding painting
secret_picture st e = listed (picture st) 0 640 (replicate 640 32) (length-replicate {A = ℕ} 640 32) (λ k l. get_or-replicate 640 k 32 0 l ∙ secret_at st e (0 + k))

-- the key texts have a row's length
pub texts_size : {s : Settings} → Sound s → length s.texts ≡ 80
unfolding array_ranges
texts_size h = omega (arith, h.arrays)

-- "else the layer's code if marked; else" the picture without secret and layer
module _ (s : Settings) (cells layer dots : List ℕ) where
  -- what stands
  abbrev st : State
  st = state s cells layer dots

  -- a place under the layer
  abbrev under_it : ℕ → ℕ
  under_it = below st

  -- with the layer
  plain_at : eqb s.secret 1 ≡ false → (p : ℕ) → p < 640 → laid layer under_it p ≡ picture st p
  unfolding laid picture picture_at covered
  plain_at plain p h =
      let e : 80 * (p / 80 + 1 - 1) + (p % 80 + 1 - 1) ≡ p = omega arith in
      let P : ℕ → Type 0 = λ (x : ℕ). laid layer under_it p ≡ x in
      elim_at P (eqb s.secret 1) 32 _ (λ t. absurd (differ (sym t ∙ plain)))
      (λ f. elim_at P (eqb (get_or layer (80 * (p / 80 + 1 - 1) + (p % 80 + 1 - 1)) 0) 0) _ _
      (λ t. ap (λ (b : Bool). cond b (under_it p) (get_or layer (640 + p) 0)) (ap (λ (k : ℕ). eqb (get_or layer k 0) 0) (sym e) ∙ t))
      (λ g. ap (λ (b : Bool). cond b (under_it p) (get_or layer (640 + p) 0)) (ap (λ (k : ℕ). eqb (get_or layer k 0) 0) (sym e) ∙ g) ∙ ap (λ (k : ℕ). get_or layer (640 + k) 0) (sym e)))

  -- so the whole picture
  plain-picture : eqb s.secret 1 ≡ false → (xs : List ℕ) → length xs ≡ 640 → painted 0 640 (laid layer under_it) xs ≡ painting st
  unfolding painted painting
  plain-picture plain xs n =
      put_all (list_from (laid layer under_it) 0 640) xs (length_list_from (laid layer under_it) 0 640 ∙ sym n)
      ∙ same_list_from (laid layer under_it) (picture st) 0 640 (λ p g h. plain_at plain p (omega arith))

  -- row 8 under display 0, by its columns
  keys : s.display ≡ 0 → (k : ℕ) → k < 80 → get_or s.texts k 0 ≡ under_it (560 + k)
  keys d k h =
      let r : (560 + k) / 80 + 1 ≡ 8 = omega arith in
      let c : (560 + k) % 80 + 1 ≡ k + 1 = omega arith in
      let b : k + 1 - 1 ≡ k = omega arith in
      sym ((λ i. under st (r i) (c i)) ∙ key_row st (k + 1) d ∙ ap (λ (j : ℕ). get_or s.texts j 0) b)

  -- P12, row 8 alone: the key texts, or the view's last row; then the layer over it, or blanks in secret mode
  module _ (xs : List ℕ) {l : List ℕ} where
    pub row_8_keys : s.display ≡ 0 → length s.texts ≡ 80 → l ≡ put 560 s.texts xs → l ≡ painted 560 80 under_it xs
    row_8_keys d size e = e ∙ put_listed under_it 560 80 s.texts xs size (keys d)

    pub row_8_view : (v : View) → ViewOf s v → (s.display ≡ 0 → ⊥) → l ≡ painted 560 80 (seen v cells) xs → l ≡ painted 560 80 under_it xs
    unfolding painted seen
    row_8_view v is_view d e =
        let eight : v.rows ≡ 8 = is_view.rows_are ∙ rows_plain s d in
        e ∙ ap (λ (ys : List ℕ). put 560 ys xs) (same_list_from (seen v cells) under_it 560 80 (λ p a b. is_view.same cells layer dots (p / 80) (p % 80) (omega arith) (omega arith)))

    pub row_8_plain : {l' : List ℕ} → eqb s.secret 1 ≡ false → length xs ≡ 640 → l ≡ painted 560 80 under_it xs → l' ≡ painted 560 80 (laid layer (λ p. get_or l p 0)) l → l' ≡ painted 560 80 (picture st) xs
    unfolding painted
    row_8_plain plain n e e' =
        painted_over 560 80 under_it layer xs (omega arith) e e'
        ∙ ap (λ (ys : List ℕ). put 560 ys xs) (same_list_from (laid layer under_it) (picture st) 560 80 (λ p g h. plain_at plain p (omega arith)))

    pub row_8_secret : eqb s.secret 1 ≡ true → l ≡ put 560 (replicate 80 32) xs → l ≡ painted 560 80 (picture st) xs
    row_8_secret t e = e ∙ put_listed (picture st) 560 80 (replicate 80 32) xs (length-replicate {A = ℕ} 80 32) (λ k h. get_or-replicate 80 k 32 0 h ∙ secret_at st t (560 + k))

  module _ (v : View) (is_view : ViewOf s v) (xs : List ℕ) where
    -- the rows that show text are the view's
    text_rows_lem : {l : List ℕ} → l ≡ painted 0 (v.rows * 80) (seen v cells) xs → l ≡ painted 0 (text_rows s * 80) under_it xs
    unfolding painted seen
    text_rows_lem e =
        e ∙ ap (λ (ys : List ℕ). put 0 ys xs) (same_list_from (seen v cells) under_it 0 (v.rows * 80) (λ p a b. is_view.same cells layer dots (p / 80) (p % 80) (omega arith) (omega arith)))
        ∙ ap (λ (n : ℕ). put 0 (list_from under_it 0 (n * 80)) xs) is_view.rows_are

    -- behind them, under display 0, stand the key texts
    all_rows : {l l' : List ℕ} → length s.texts ≡ 80 → length xs ≡ 640 → l ≡ painted 0 (text_rows s * 80) under_it xs → l' ≡ cond (eqb s.display 0) (put 560 s.texts l) l → l' ≡ painted 0 640 under_it xs
    all_rows {l} {l'} size n e = by (eqb s.display 0) refl
      where
        by : (b : Bool) → eqb s.display 0 ≡ b → l' ≡ cond b (put 560 s.texts l) l → l' ≡ painted 0 640 under_it xs
        by true d f =
            let seven : text_rows s * 80 ≡ 560 = ap (λ (k : ℕ). k * 80) (rows_shown s (eqb-true s.display 0 d)) in
            painted_next 0 under_it xs 560 80 640 (e ∙ ap (λ (k : ℕ). painted 0 k under_it xs) seven)
            (f ∙ put_listed under_it 560 80 s.texts l size (keys (eqb-true s.display 0 d))) refl (omega arith) refl
        by false d f =
            let eight : text_rows s * 80 ≡ 640 = ap (λ (k : ℕ). k * 80) (rows_plain s (λ z. differ (sym (eq-eqb s.display 0 z) ∙ d))) in
            f ∙ e ∙ ap (λ (k : ℕ). painted 0 k under_it xs) eight

    -- what is painted by the view (l), by the key texts (l') and by the layer (l'') is the picture
    pub whole-picture : {l l' l'' : List ℕ} → length s.texts ≡ 80 → length xs ≡ 640 → l ≡ cond (eqb s.secret 1) (replicate 640 32) (painted 0 (v.rows * 80) (seen v cells) xs)
        → l' ≡ cond (eqb s.secret 1) l (cond (eqb s.display 0) (put 560 s.texts l) l)
        → l'' ≡ cond (eqb s.secret 1) l' (painted 0 640 (laid layer (λ p. get_or l' p 0)) l') → l'' ≡ painting st
    whole-picture {l} {l'} {l''} size n = by (eqb s.secret 1) refl
      where
        by : (b : Bool) → eqb s.secret 1 ≡ b → l ≡ cond b (replicate 640 32) (painted 0 (v.rows * 80) (seen v cells) xs)
            → l' ≡ cond b l (cond (eqb s.display 0) (put 560 s.texts l) l) → l'' ≡ cond b l' (painted 0 640 (laid layer (λ p. get_or l' p 0)) l') → l'' ≡ painting st
        by true t e e' e'' = e'' ∙ e' ∙ e ∙ secret_picture st t
        by false f e e' e'' = painted_over 0 640 under_it layer xs (omega arith) (all_rows size n (text_rows_lem e) e') e'' ∙ plain-picture f xs n
