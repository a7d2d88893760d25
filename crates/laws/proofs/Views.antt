-- P12: what the picture looks at. Where that is the same, the picture is; a printed character is seen at its cell's place alone, and there it is the character.
use mathlib.Core.Path.{◌∙◌, ◌≡◌, ap, refl, subst, sym}
use Prim.Native.Nat.{◌%◌, ◌*◌, ◌+◌, ◌-◌, ◌/◌, ◌<◌, ◌≤◌, ℕ}
use native.Mathlib.Omega.{arith}
use mathlib.Core.Bool.{Bool, cond, false, true}
use mathlib.Core.List.{List}
use lib.ListN.{get_or, length, set}
use lib.Seq.{get_or-set_other, get_or-set_same}
use lib.Dec.{eqb, leb, ltb}
use borrow.Author.Tests.{eq-eqb, eqb-false, eqb-true, leb-false, leb-true, lt-ltb, ltb-true}
use Rattle.model.specs.declared.Settings.{Settings}
use Rattle.model.specs.State.{State}
use Rattle.model.specs.Screens.{base, cell_at, columns_here, columns_of, here, line_at, lines_here, place_of, size, text_rows}
use Rattle.model.specs.Sound.{Good, Shaped, mode0, mode1, mode2, mode3}
use Rattle.model.specs.Picture.{covered, halves, picture, picture_at, sides, text_at, under, window_at}
use Rattle.model.specs.Rules.{shown_at, stored, empty_at}
use Rattle.model.proofs.Tests.{cond_at, differ}
use Rattle.model.proofs.Places.{Shows, all, alone, left_half, left_side, picture-shows, right_half, right_side}
use Rattle.laws.proofs.ShownPlace.{shown_only, shown_there}
use Rattle.model.proofs.Events.{cell_inside}
use Rattle.model.proofs.Keep.{chosen, within}
use Rattle.model.proofs.Steps.{fits}

-- a test between two ways, each of which is the same
elim_both : (b : Bool) {x y u v : ℕ} → (b ≡ true → x ≡ u) → (b ≡ false → y ≡ v) → ◌≡◌ {A = ℕ} (elim b [ true ↦ x | false ↦ y ]) (elim b [ true ↦ u | false ↦ v ])
elim_both true f g = f refl
elim_both false f g = g refl

-- what the picture looks at: cells and layer, and of the settings all but cursors, marks and what is only stored
pub record SameView (a b : State) : Type 0 where
  pub same_cells : b.cells ≡ a.cells
  pub same_layer : b.layer ≡ a.layer
  pub same_mode : b.settings.mode ≡ a.settings.mode
  pub same_lines : b.settings.lines1 ≡ a.settings.lines1
  pub same_columns : b.settings.columns1 ≡ a.settings.columns1
  pub same_others : b.settings.columns2 ≡ a.settings.columns2
  pub same_boundary : b.settings.boundary ≡ a.settings.boundary
  pub same_selected : b.settings.selected ≡ a.settings.selected
  pub same_secret : b.settings.secret ≡ a.settings.secret
  pub same_display : b.settings.display ≡ a.settings.display
  pub same_texts : b.settings.texts ≡ a.settings.texts
  pub same_tops : (k : ℕ) → (place_of b.settings k).top ≡ (place_of a.settings k).top

module _ {a b : State} (v : SameView a b) where
  same_window : (k r c : ℕ) → window_at b k r c ≡ window_at a k r c
  unfolding window_at cell_at line_at base columns_of
  same_window k r c = λ i. get_or (v.same_cells i) (cond (eqb k 0) 0 (v.same_lines i * v.same_columns i) + (v.same_tops k i + r - 1 - 1) * cond (eqb k 0) (v.same_columns i) (v.same_others i) + (c - 1)) 0

  chosen_window : (r c : ℕ) → window_at b b.settings.selected r c ≡ window_at a a.settings.selected r c
  chosen_window r c = same_window b.settings.selected r c ∙ ap (λ (k : ℕ). window_at a k r c) v.same_selected

  pub same_rows : text_rows b.settings ≡ text_rows a.settings
  unfolding text_rows
  same_rows = λ i. cond (eqb (v.same_display i) 0) 7 8

  same_text : (r c : ℕ) → text_at b r c ≡ text_at a r c
  unfolding text_at halves sides
  same_text r c =
      let far : window_at b b.settings.selected (text_rows b.settings + r) (c - 41) ≡ window_at a a.settings.selected (text_rows a.settings + r) (c - 41) =
      chosen_window (text_rows b.settings + r) (c - 41) ∙ ap (λ (n : ℕ). window_at a a.settings.selected (n + r) (c - 41)) same_rows in
      let right : window_at b 1 r (c - b.settings.columns1 - 1) ≡ window_at a 1 r (c - a.settings.columns1 - 1) =
      same_window 1 r (c - b.settings.columns1 - 1) ∙ ap (λ (n : ℕ). window_at a 1 r (c - n - 1)) v.same_columns in
      λ i. elim (eqb (v.same_mode i) 0) as (λ b. ℕ) [
        | true ↦ chosen_window r c i
        | false ↦ elim (eqb (v.same_mode i) 1) as (λ b. ℕ) [
          | true ↦ elim (leb c 39) as (λ b. ℕ) [ true ↦ chosen_window r c i | false ↦ elim (leb c 41) as (λ b. ℕ) [ true ↦ 32 | false ↦ far i ] ]
          | false ↦ elim (eqb (v.same_mode i) 3) as (λ b. ℕ) [
            | true ↦ chosen_window r c i
            | false ↦ elim (leb c (v.same_columns i)) as (λ b. ℕ) [
              | true ↦ same_window 0 r c i
              | false ↦ elim (eqb c (v.same_columns i + 1)) as (λ b. ℕ) [ true ↦ v.same_boundary i | false ↦ right i ]
            ]
          ]
        ]
      ]

  same_under : (r c : ℕ) → under b r c ≡ under a r c
  unfolding under
  same_under r c = λ i. elim (leb r (same_rows i)) as (λ b. ℕ) [ true ↦ same_text r c i | false ↦ get_or (v.same_texts i) (c - 1) 0 ]

  pub same_picture : (p : ℕ) → picture b p ≡ picture a p
  unfolding picture picture_at covered
  same_picture p =
      let r : ℕ = p / 80 + 1 in
      let c : ℕ = p % 80 + 1 in
      λ i. elim (eqb (v.same_secret i) 1) as (λ b. ℕ) [
        | true ↦ 32
        | false ↦ elim (eqb (get_or (v.same_layer i) (80 * (r - 1) + (c - 1)) 0) 0) as (λ b. ℕ) [ true ↦ same_under r c i | false ↦ get_or (v.same_layer i) (640 + (80 * (r - 1) + (c - 1))) 0 ]
      ]

  -- the selected screen's top
  pub same_top : (here b).top ≡ (here a).top
  same_top = v.same_tops b.settings.selected ∙ ap (λ (k : ℕ). (place_of a.settings k).top) v.same_selected

pub view_refl : (a : State) → SameView a a
view_refl a = record { same_cells = refl; same_layer = refl; same_mode = refl; same_lines = refl; same_columns = refl; same_others = refl; same_boundary = refl; same_selected = refl; same_secret = refl; same_display = refl; same_texts = refl; same_tops = λ k. refl }

pub view_trans : {a b c : State} → SameView a b → SameView b c → SameView a c
view_trans u v = record {
  same_cells = v.same_cells ∙ u.same_cells;
  same_layer = v.same_layer ∙ u.same_layer;
  same_mode = v.same_mode ∙ u.same_mode;
  same_lines = v.same_lines ∙ u.same_lines;
  same_columns = v.same_columns ∙ u.same_columns;
  same_others = v.same_others ∙ u.same_others;
  same_boundary = v.same_boundary ∙ u.same_boundary;
  same_selected = v.same_selected ∙ u.same_selected;
  same_secret = v.same_secret ∙ u.same_secret;
  same_display = v.same_display ∙ u.same_display;
  same_texts = v.same_texts ∙ u.same_texts;
  same_tops = λ k. v.same_tops k ∙ u.same_tops k;
}

-- a byte stored at the cursor
module _ (a : State) (g : Good a) (c : ℕ) where
  abbrev s : Settings
  s = a.settings

  abbrev own : ℕ
  own = cell_at s s.selected (here a).line (here a).column

  -- its place
  abbrev spot : ℕ
  spot = shown_at s (here a).line (here a).column

  module _ (p : ℕ) (h : p < 640) where
    abbrev r : ℕ
    r = p / 80 + 1

    abbrev k : ℕ
    k = p % 80 + 1

    at_spot : 80 * (r - 1) + (k - 1) ≡ p
    at_spot = omega arith

    -- every other place shows another cell
    module _ (n : p ≡ spot → ⊥) where
      other_cell : (x : ℕ) → Shows s r k x → get_or (set a.cells own c) x 0 ≡ get_or a.cells x 0
      other_cell x e =
          get_or-set_other a.cells own x c 0
          (λ (z : x ≡ own). n (sym (shown_only s g.sound (here a).line (here a).column r k (fits a g).line_low (fits a g).line_high (fits a g).column_low (fits a g).column_high (omega arith) (omega arith) (omega arith) (subst (Shows s r k) z e) ∙ at_spot)))

      second : (s.mode ≡ 0 → ⊥) → (s.mode ≡ 1 → ⊥) → (s.mode ≡ 3 → ⊥) → s.mode ≡ 2
      second x y z = go g.sound.shaped
        where
          go : Shaped s.mode s.lines1 s.lines2 s.columns1 s.columns2 → s.mode ≡ 2
          go (mode0 m c1 c2 a b d) = absurd (x m)
          go (mode1 m c1 c2 a b d) = absurd (y m)
          go (mode2 m c1 c1' c2 a b d) = m
          go (mode3 m c1 c2 a b) = absurd (z m)

      other_text : r ≤ text_rows s → text_at (stored c a) r k ≡ text_at a r k
      unfolding text_at halves sides window_at stored
      other_text u =
          elim_both (eqb s.mode 0) (λ m. other_cell _ (all (eqb-true _ _ m) u refl))
          (λ n₀. elim_both (eqb s.mode 1)
          (λ m. elim_both (leb k 39) (λ l. other_cell _ (left_half (eqb-true _ _ m) u (leb-true _ _ l) refl))
          (λ l. elim_both (leb k 41) (λ l₂. refl) (λ l₂. other_cell _ (right_half (eqb-true _ _ m) u (omega (arith, leb-false k 41 l₂)) refl))))
          (λ n₁. elim_both (eqb s.mode 3) (λ m. other_cell _ (alone (eqb-true _ _ m) u refl))
          (λ n₃. let m : s.mode ≡ 2 = second (eqb-false _ _ n₀) (eqb-false _ _ n₁) (eqb-false _ _ n₃) in
          elim_both (leb k s.columns1) (λ l. other_cell _ (left_side m u (leb-true _ _ l) refl))
          (λ l. elim_both (eqb k (s.columns1 + 1)) (λ e. refl) (λ e. other_cell _ (right_side m u (omega (arith, leb-false k s.columns1 l, eqb-false k (s.columns1 + 1) e)) refl))))))

      other_mark : (get_or (empty_at spot a.layer) p 0 ≡ get_or a.layer p 0) × (get_or (empty_at spot a.layer) (640 + p) 0 ≡ get_or a.layer (640 + p) 0)
      unfolding empty_at
      other_mark = cond_at (λ (l : List ℕ). (get_or l p 0 ≡ get_or a.layer p 0) × (get_or l (640 + p) 0 ≡ get_or a.layer (640 + p) 0)) (ltb spot 640) _ a.layer
          (λ e. let u : spot < 640 = ltb-true spot 640 e in
          let l : List ℕ = set a.layer spot 0 in (
            get_or-set_other l (640 + spot) p 0 0 (λ (z : p ≡ 640 + spot). omega (arith, z, h)) ∙ get_or-set_other a.layer spot p 0 0 n,
            get_or-set_other l (640 + spot) (640 + p) 0 0 (λ (z : 640 + p ≡ 640 + spot). n (omega (arith, z))) ∙ get_or-set_other a.layer spot (640 + p) 0 0 (λ (z : 640 + p ≡ spot). omega (arith, z, u)),
          ))
          (λ e. (refl, refl))

      -- so the picture is the same there
      pub other_picture : picture (stored c a) p ≡ picture a p
      unfolding picture picture_at covered under stored
      other_picture =
          let m : get_or (empty_at spot a.layer) (80 * (r - 1) + (k - 1)) 0 ≡ get_or a.layer (80 * (r - 1) + (k - 1)) 0 = rw at_spot other_mark.0 in
          let w : get_or (empty_at spot a.layer) (640 + (80 * (r - 1) + (k - 1))) 0 ≡ get_or a.layer (640 + (80 * (r - 1) + (k - 1))) 0 = rw at_spot other_mark.1 in
          let u : under (stored c a) r k ≡ under a r k = elim_both (leb r (text_rows s)) (λ l. other_text (leb-true _ _ l)) (λ l. refl) in
          λ i. elim (eqb s.secret 1) as (λ b. ℕ) [ true ↦ 32 | false ↦ elim (eqb (m i) 0) as (λ b. ℕ) [ true ↦ u i | false ↦ w i ] ]

  -- and at its own place it is the byte
  own_inside : own < length a.cells
  unfolding cell_at line_at size
  own_inside =
      let f = fits a g in
      omega (arith, cell_inside (columns_here a) (here a).line (lines_here a) (here a).column f.line_low f.line_high f.column_low f.column_high, within s g.sound s.selected (chosen s g.sound), g.cells_are)

  own_under : spot < 640 → under (stored c a) (spot / 80 + 1) (spot % 80 + 1) ≡ c
  unfolding stored
  own_under h =
      picture-shows (stored c a) (spot / 80 + 1) (spot % 80 + 1) own (shown_there s g.sound (here a).line (here a).column (fits a g).column_low (fits a g).column_high h)
      ∙ get_or-set_same a.cells own c 0 own_inside

  own_mark : spot < 640 → get_or (empty_at spot a.layer) spot 0 ≡ 0
  unfolding empty_at
  own_mark h =
      ap (λ (b : Bool). get_or (cond b (set (set a.layer spot 0) (640 + spot) 0) a.layer) spot 0) (lt-ltb spot 640 h)
      ∙ get_or-set_other (set a.layer spot 0) (640 + spot) spot 0 0 (λ (z : spot ≡ 640 + spot). omega (arith, z))
      ∙ get_or-set_same a.layer spot 0 0 (omega (arith, h, g.layer_are))

  pub own_picture : spot < 640 → picture (stored c a) spot ≡ cond (eqb s.secret 1) 32 c
  unfolding picture picture_at covered stored
  own_picture h = by_tests_lem (eqb s.secret 1) (eqb (get_or (empty_at spot a.layer) (80 * ((spot / 80 + 1) - 1) + ((spot % 80 + 1) - 1)) 0) 0) _ bare (own_under h)
    where
      bare : eqb (get_or (empty_at spot a.layer) (80 * ((spot / 80 + 1) - 1) + ((spot % 80 + 1) - 1)) 0) 0 ≡ true
      bare =
          let at : 80 * ((spot / 80 + 1) - 1) + ((spot % 80 + 1) - 1) ≡ spot = omega arith in
          ap (λ (n : ℕ). eqb (get_or (empty_at spot a.layer) n 0) 0) at ∙ eq-eqb (get_or (empty_at spot a.layer) spot 0) 0 (own_mark h)

      by_tests_lem : (b d : Bool) {x : ℕ} (y : ℕ) → d ≡ true → x ≡ c → ◌≡◌ {A = ℕ} (elim b [ true ↦ 32 | false ↦ elim d [ true ↦ x | false ↦ y ] ]) (cond b 32 c)
      by_tests_lem true d y e f = refl
      by_tests_lem false true y e f = f
      by_tests_lem false false y e f = absurd (differ (sym e))
