-- What a view shows, run by run: a row is the cells of the left pane, the gap's code, then the cells of the right pane; all rows of a
-- pane as wide as the screen are one piece of the cells.
use mathlib.Core.Path.{◌∙◌, ◌≡◌, ap, refl, subst, sym}
use Prim.Native.Nat.{◌%◌, ◌*◌, ◌+◌, ◌-◌, ◌/◌, ◌<◌, ◌≤◌, ℕ}
use native.Mathlib.Omega.{arith}
use mathlib.Core.List.{List, ◌++◌}
use lib.ListN.{drop, get_or, get_or-replicate, length, length-drop, length-replicate, length-take, replicate, take}
use borrow.Author.Tests.{le-ltb, lt-ltb}
use Rattle.model.specs.Bytes.{put}
use Rattle.model.proofs.ByteLaws.{get_d_part}
use Rattle.model.proofs.Keep.{lines_inside}
use Rattle.store.proofs.Laws.{lent_filled}
use Rattle.views.specs.declared.Pane.{Pane}
use Rattle.views.specs.declared.View.{View}
use Rattle.views.specs.Panes.{Framed, Line, across, cell_in, seen}
use Rattle.views.specs.Painted.{painted}
use Rattle.views.proofs.Painted.{painted_next, put_listed}

-- a part of the cells
part_run : (f : ℕ → ℕ) (i n at : ℕ) (cells xs : List ℕ) → at + n ≤ length cells → ((k : ℕ) → k < n → f (i + k) ≡ get_or cells (at + k) 0)
    → put i (take n (drop at cells)) xs ≡ painted i n f xs
part_run f i n at cells xs h g = put_listed f i n (take n (drop at cells)) xs (simp (length-take, length-drop) (omega arith)) (λ k l. get_d_part cells at n k l ∙ sym (g k l))

-- a place by its row and its column
at_column : (v : View) (cells : List ℕ) (p row column : ℕ) → p ≡ row * 80 + column → column < 80 → seen v cells p ≡ across v cells row column
unfolding seen
at_column v cells p row column e h =
    let r : p / 80 ≡ row = omega arith in
    let c : p % 80 ≡ column = omega arith in
    rw (r, c)

-- so in the left pane
at_left : (v : View) (cells : List ℕ) (p row column : ℕ) → p ≡ row * 80 + column → column < 80 → column < v.left.width → seen v cells p ≡ get_or cells (cell_in v.left row column) 0
unfolding across
at_left v cells p row column e h l = at_column v cells p row column e h ∙ rw (lt-ltb column v.left.width l)

-- a left pane as wide as the screen
pub whole_made : (v : View) → Framed v → (cells xs : List ℕ) {l : List ℕ} → length cells ≡ 3840 → v.left.width ≡ 80 → l ≡ put 0 (take (v.rows * 80) (drop v.left.at cells)) xs → l ≡ painted 0 (v.rows * 80) (seen v cells) xs
whole_made v framed cells xs size wide e =
    let inside : v.left.at + v.rows * 80 ≤ 3840 = rw wide at framed.left_inside in
    e ∙ part_run (seen v cells) 0 (v.rows * 80) v.left.at cells xs (omega arith)
    (λ k h. at_left v cells (0 + k) (k / 80) (k % 80) (omega arith) (omega arith) (omega arith) ∙ ap (λ (n : ℕ). get_or cells n 0) (rw wide (omega arith)))

-- a row of a pane lies among the cells, since all rows do
pub row_inside : (pane : Pane) (row rows : ℕ) → row < rows → pane.at + rows * pane.width ≤ 3840 → pane.at + row * pane.width + pane.width ≤ 3840
row_inside pane row rows h k = omega (arith, lines_inside pane.width row 1 rows (omega arith), k)

module _ (v : View) (framed : Framed v) (cells : List ℕ) (size : length cells ≡ 3840) (row : ℕ) where
  -- where the gap of the row begins, and where it ends
  abbrev between : ℕ
  between = row * 80 + v.left.width

  abbrev to : ℕ
  to = between + v.gap

  -- the left pane, the gap and the right pane, each by itself
  left_run : (xs : List ℕ) {at : ℕ} → Line v.left row at → put (row * 80) (take v.left.width (drop at cells)) xs ≡ painted (row * 80) v.left.width (seen v cells) xs
  left_run xs {at} h = part_run (seen v cells) (row * 80) v.left.width at cells xs (omega arith)
      (λ k l. at_left v cells (row * 80 + k) row k (omega arith) (omega arith) l ∙ rw h.starts)

  -- a row of a pane as wide as the screen
  pub whole_row : (xs : List ℕ) {at : ℕ} {l : List ℕ} → v.left.width ≡ 80 → Line v.left row at → l ≡ put (row * 80) (take 80 (drop at cells)) xs → l ≡ painted (row * 80) 80 (seen v cells) xs
  whole_row xs {at} {l} w h e = subst (λ (n : ℕ). l ≡ put (row * 80) (take n (drop at cells)) xs → l ≡ painted (row * 80) n (seen v cells) xs) w (λ e. e ∙ left_run xs h) e

  gap_run : (xs : List ℕ) → put between (replicate v.gap v.code) xs ≡ painted between v.gap (seen v cells) xs
  unfolding across
  gap_run xs = put_listed (seen v cells) between v.gap (replicate v.gap v.code) xs (length-replicate v.gap v.code)
      (λ k l. get_or-replicate v.gap k v.code 0 l ∙ sym (at_column v cells (between + k) row (v.left.width + k) (omega arith) (omega arith)
      ∙ rw (le-ltb (v.left.width + k) v.left.width (omega arith), lt-ltb (v.left.width + k) (v.left.width + v.gap) (omega arith))))

  right_run : (xs : List ℕ) {at : ℕ} → Line v.right row at → put to (take v.right.width (drop at cells)) xs ≡ painted to v.right.width (seen v cells) xs
  unfolding across
  right_run xs {at} h = part_run (seen v cells) to v.right.width at cells xs (omega arith)
      (λ k l. let column : ℕ = v.left.width + v.gap + k in
      let back : column - (v.left.width + v.gap) ≡ k = omega arith in
      at_column v cells (to + k) row column (omega arith) (omega arith)
      ∙ rw (le-ltb column v.left.width (omega arith), le-ltb column (v.left.width + v.gap) (omega arith), back, h.starts))

  -- the row, from what is done to it: the left pane (l), the gap's code (ys as it comes home), the right pane (l')
  pub row_made : (xs : List ℕ) {at bt : ℕ} {ys l l' : List ℕ} → Line v.left row at → Line v.right row bt → row * 80 + 80 ≤ length xs → row * 80 + 80 ≤ length l
      → l ≡ put (row * 80) (take v.left.width (drop at cells)) xs
      → ys ≡ replicate (length (take (to - between) (drop between l))) v.code
      → l' ≡ put to (take v.right.width (drop bt cells)) (take between l ++ (ys ++ drop (to - between) (drop between l)))
      → l' ≡ painted (row * 80) 80 (seen v cells) xs
  row_made xs {l = l} h k fits fits' first filled last =
      let gapped = painted_next (row * 80) (seen v cells) xs v.left.width v.gap (v.left.width + v.gap) (first ∙ left_run xs h)
      (lent_filled between v.gap (to - between) v.code l filled (omega arith) (omega arith) ∙ gap_run l) refl (omega arith) refl
      in
      painted_next (row * 80) (seen v cells) xs (v.left.width + v.gap) v.right.width 80 gapped (last ∙ right_run _ k) (omega arith) (omega arith) framed.whole
