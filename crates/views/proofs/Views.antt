-- The views of the four modes show the picture without secret and layer.
use mathlib.Core.Path.{◌∙◌, ◌≡◌, ap, refl, sym}
use mathlib.Core.Logic.{◌⊎◌, inl, inr, ⊎_elim}
use Prim.Native.Nat.{◌*◌, ◌+◌, ◌-◌, ◌<◌, ◌≤◌, ℕ}
use native.Mathlib.Nat.{add-mul}
use native.Mathlib.Omega.{arith}
use mathlib.Core.List.{List}
use lib.ListN.{get_or}
use lib.Dec.{eqb, leb, ltb}
use borrow.Author.Tests.{eq-eqb, eqb-true, le-leb, leb-true, ltb-false, ltb-true}
use Rattle.model.specs.declared.Settings.{Settings}
use Rattle.model.specs.State.{State, state}
use Rattle.model.specs.Screens.{cell_at, columns_of, height, place_of, screens, text_rows}
use Rattle.model.specs.Sound.{Shaped, Sound, mode0, mode1, mode2, mode3}
use Rattle.model.specs.Picture.{halves, sides, text_at, under}
use Rattle.model.proofs.Keep.{both_there, one_there, rows_high}
use Rattle.model.proofs.KeyLaws.{height_one, height_two}
use Rattle.model.proofs.Tests.{cond_at, differ, elim_at}
use Rattle.model.proofs.Places.{Shows, all, alone, left_half, left_side, picture-shows, right_half, right_side, under-text}
use Rattle.views.specs.declared.Pane.{Pane}
use Rattle.views.specs.declared.View.{View}
use Rattle.views.specs.Panes.{ViewOf, Window, across, cell_in}
use Rattle.views.proofs.Windows.{in_window}

-- the table of modes by the mode's number
columns_0 : {m l1 l2 c1 c2 : ℕ} → Shaped m l1 l2 c1 c2 → (m ≡ 1 → ⊥) → (m ≡ 2 → ⊥) → ((m ≡ 0) × ((c1 ≡ 80) × (c2 ≡ 80))) ⊎ ((m ≡ 3) × (c1 ≡ 80))
columns_0 (mode0 m p q a b c) o t = inl (m, (p, q))
columns_0 (mode1 m p q a b c) o t = absurd (o m)
columns_0 (mode2 m p q r a b c) o t = absurd (t m)
columns_0 (mode3 m p q a b) o t = inr (m, p)

columns_1 : {m l1 l2 c1 c2 : ℕ} → Shaped m l1 l2 c1 c2 → m ≡ 1 → (c1 ≡ 39) × (c2 ≡ 39)
columns_1 (mode0 m p q a b c) e = absurd (omega arith)
columns_1 (mode1 m p q a b c) e = (p, q)
columns_1 (mode2 m p q r a b c) e = absurd (omega arith)
columns_1 (mode3 m p q a b) e = absurd (omega arith)

columns_2 : {m l1 l2 c1 c2 : ℕ} → Shaped m l1 l2 c1 c2 → m ≡ 2 → (c1 ≤ 78) × (c2 ≡ 79 - c1)
columns_2 (mode0 m p q a b c) e = absurd (omega arith)
columns_2 (mode1 m p q a b c) e = absurd (omega arith)
columns_2 (mode2 m p q r a b c) e = (q, r)
columns_2 (mode3 m p q a b) e = absurd (omega arith)

-- a row by its three parts
by_parts : (v : View) (cells : List ℕ) (row column u : ℕ)
    → (column < v.left.width → get_or cells (cell_in v.left row column) 0 ≡ u)
    → (v.left.width ≤ column → column < v.left.width + v.gap → v.code ≡ u)
    → (v.left.width + v.gap ≤ column → get_or cells (cell_in v.right row (column - (v.left.width + v.gap))) 0 ≡ u)
    → across v cells row column ≡ u
unfolding across
by_parts v cells row column u left gap right =
    cond_at (λ (x : ℕ). x ≡ u) (ltb column v.left.width) _ _ (λ t. left (ltb-true _ _ t))
    (λ f. cond_at (λ (x : ℕ). x ≡ u) (ltb column (v.left.width + v.gap)) _ _ (λ t. gap (ltb-false _ _ f) (ltb-true _ _ t)) (λ g. right (ltb-false _ _ g)))

-- "40 and 41 blank"
gap_blank : (st : State) (row column : ℕ) → row ≤ text_rows st.settings → st.settings.mode ≡ 1 → 40 ≤ column → column ≤ 41 → under st row column ≡ 32
unfolding text_at halves
gap_blank st row column r m g h =
    under-text st row column r ∙ elim_at (λ (x : ℕ). x ≡ 32) (eqb st.settings.mode 0) _ _ (λ t. absurd (omega (arith, eqb-true st.settings.mode 0 t)))
    (λ f. elim_at (λ (x : ℕ). x ≡ 32) (eqb st.settings.mode 1) _ _
    (λ t. elim_at (λ (x : ℕ). x ≡ 32) (leb column 39) _ _ (λ u. absurd (omega (arith, leb-true column 39 u)))
    (λ u. elim_at (λ (x : ℕ). x ≡ 32) (leb column 41) _ _ (λ w. refl) (λ w. absurd (differ (sym (le-leb column 41 h) ∙ w)))))
    (λ g. absurd (differ (sym (eq-eqb _ 1 m) ∙ g))))

-- "column m+1 the boundary"
gap_boundary : (st : State) (row column : ℕ) → row ≤ text_rows st.settings → st.settings.mode ≡ 2 → column ≡ st.settings.columns1 + 1 → under st row column ≡ st.settings.boundary
unfolding text_at sides
gap_boundary st row column r m h =
    let b : ℕ = st.settings.boundary in
    under-text st row column r ∙ elim_at (λ (x : ℕ). x ≡ b) (eqb st.settings.mode 0) _ _ (λ t. absurd (omega (arith, eqb-true st.settings.mode 0 t)))
    (λ f. elim_at (λ (x : ℕ). x ≡ b) (eqb st.settings.mode 1) _ _ (λ t. absurd (omega (arith, eqb-true st.settings.mode 1 t)))
    (λ g. elim_at (λ (x : ℕ). x ≡ b) (eqb st.settings.mode 3) _ _ (λ t. absurd (omega (arith, eqb-true st.settings.mode 3 t)))
    (λ n. elim_at (λ (x : ℕ). x ≡ b) (leb column st.settings.columns1) _ _ (λ u. absurd (omega (arith, leb-true column st.settings.columns1 u)))
    (λ u. elim_at (λ (x : ℕ). x ≡ b) (eqb column (st.settings.columns1 + 1)) _ _ (λ w. refl) (λ w. absurd (differ (sym (eq-eqb column (st.settings.columns1 + 1) h) ∙ w)))))))

module _ (s : Settings) (sound : Sound s) where
  -- screens of one width
  columns_both : (n k : ℕ) → s.columns1 ≡ n → s.columns2 ≡ n → columns_of s k ≡ n
  unfolding columns_of
  columns_both n k e f = cond_at (λ (w : ℕ). w ≡ n) (eqb k 0) _ _ (λ t. e) (λ t. f)

  -- all rows of a window that is as tall as they are lie among the cells
  rows_inside : {k rows : ℕ} {pane : Pane} → rows ≡ height s → Window s k pane → pane.at + rows * pane.width ≤ 3840
  rows_inside {k} {rows} {pane} e w = rw e w.inside

  -- modes 0 and 3: the selected screen, 80 columns wide, and the way in which it is shown
  module _ (o : s.mode ≡ 1 → ⊥) (t : s.mode ≡ 2 → ⊥) where
    whole_wide : columns_of s s.selected ≡ 80
    unfolding columns_of
    whole_wide =
        ⊎_elim (λ (c : (s.mode ≡ 0) × ((s.columns1 ≡ 80) × (s.columns2 ≡ 80))). columns_both 80 s.selected c.1.0 c.1.1)
        (λ (c : (s.mode ≡ 3) × (s.columns1 ≡ 80)). let z : s.selected ≡ 0 = omega (arith, sound.selected, one_there s c.0) in ap (columns_of s) z ∙ c.1) (columns_0 sound.shaped o t)

    whole_shown : (r c x : ℕ) → r ≤ text_rows s → x ≡ cell_at s s.selected ((place_of s s.selected).top + r - 1) c → Shows s r c x
    whole_shown r c x h e = ⊎_elim (λ m. all m.0 h e) (λ m. alone m.0 h e) (columns_0 sound.shaped o t)

  pub shows-whole : (s.mode ≡ 1 → ⊥) → (s.mode ≡ 2 → ⊥) → {rows : ℕ} → rows ≡ text_rows s → {left : Pane} → Window s s.selected left → ViewOf s (record { rows = rows; left = left; gap = 0; code = 32; right = record { at = 0; width = 0 } })
  shows-whole o t {rows} rs {left} w =
      let wide : left.width ≡ 80 = w.wide ∙ whole_wide o t in
      let h : rows ≡ height s = rs ∙ sym (height_one s o) in
      record {
        framed = record { whole = omega arith; rows_high = omega (arith, rows_high s); left_inside = rows_inside h w; right_inside = omega arith; halves = λ e. absurd (omega arith); single = λ n e. absurd (n wide) };
        rows_are = rs;
        same = λ cells layer dots row column r k.
            by_parts _ cells row column _
            (λ l. sym (picture-shows (state s cells layer dots) (row + 1) (column + 1) _ (whole_shown o t (row + 1) (column + 1) _ (omega arith) (in_window s sound s.selected sound.selected w row column (row + 1) (column + 1) refl refl))))
            (λ l g. absurd (omega arith))
            (λ g. absurd (omega arith));
      }

  -- mode 1
  pub shows_halves : s.mode ≡ 1 → {rows : ℕ} → rows ≡ text_rows s → {left : Pane} → Window s s.selected left
      → ViewOf s (record { rows = rows; left = left; gap = 2; code = 32; right = record { at = left.at + rows * left.width; width = left.width } })
  shows_halves m {rows} rs {left} w =
      let c = columns_1 sound.shaped m in
      let wide : left.width ≡ 39 = w.wide ∙ columns_both 39 s.selected c.0 c.1 in
      let h : rows + rows ≡ height s = omega (arith, height_two s m) in
      let both : left.at + (rows * left.width + rows * left.width) ≤ 3840 = rw (← add-mul rows rows left.width, h) w.inside in
      record {
        framed = record { whole = omega arith; rows_high = omega (arith, rows_high s); left_inside = omega arith; right_inside = omega arith; halves = λ e. (wide, wide); single = λ n e. absurd (e refl) };
        rows_are = rs;
        same = λ cells layer dots row column r k.
            by_parts _ cells row column _
            (λ l. sym (picture-shows (state s cells layer dots) (row + 1) (column + 1) _
            (left_half m (omega arith) (omega arith) (in_window s sound s.selected sound.selected w row column (row + 1) (column + 1) refl refl))))
            (λ l g. sym (gap_blank (state s cells layer dots) (row + 1) (column + 1) (omega arith) m (omega arith) (omega arith)))
            (λ g. sym (picture-shows (state s cells layer dots) (row + 1) (column + 1) _
            (right_half m (omega arith) (omega arith)
            (below left rows row (column - (left.width + 2)) ∙ in_window s sound s.selected sound.selected w (rows + row) (column - (left.width + 2)) (text_rows s + (row + 1)) (column + 1 - 41) (omega arith) (omega arith)))));
      }
    where
      below : (pane : Pane) (rows row column : ℕ) → pane.at + rows * pane.width + row * pane.width + column ≡ cell_in pane (rows + row) column
      below pane rows row column = rw (add-mul rows row pane.width) (omega arith)

  -- mode 2
  pub shows_sides : s.mode ≡ 2 → {rows : ℕ} → rows ≡ text_rows s → {left right : Pane} → Window s 0 left → Window s 1 right → ViewOf s (record { rows = rows; left = left; gap = 1; code = s.boundary; right = right })
  unfolding columns_of
  shows_sides m {rows} rs {left} {right} w w' =
      let c = columns_2 sound.shaped m in
      let both : screens s ≡ 2 = both_there s (λ e. omega arith) in
      let wide : left.width ≡ s.columns1 = w.wide in
      let wide' : right.width ≡ s.columns2 = w'.wide in
      let h : rows ≡ height s = rs ∙ sym (height_one s (λ e. omega arith)) in
      record {
        framed = record { whole = omega arith; rows_high = omega (arith, rows_high s); left_inside = rows_inside h w; right_inside = rows_inside h w'; halves = λ e. absurd (omega arith); single = λ n e. refl };
        rows_are = rs;
        same = λ cells layer dots row column r k.
            by_parts _ cells row column _
            (λ l. sym (picture-shows (state s cells layer dots) (row + 1) (column + 1) _
            (left_side m (omega arith) (omega arith) (in_window s sound 0 (omega arith) w row column (row + 1) (column + 1) refl refl))))
            (λ l g. sym (gap_boundary (state s cells layer dots) (row + 1) (column + 1) (omega arith) m (omega arith)))
            (λ g. sym (picture-shows (state s cells layer dots) (row + 1) (column + 1) _
            (right_side m (omega arith) (omega arith) (in_window s sound 1 (omega arith) w' row (column - (left.width + 1)) (row + 1) (column + 1 - s.columns1 - 1) refl (omega arith)))));
      }
