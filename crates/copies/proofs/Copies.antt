-- The rows of a printed copy, put one behind the other; and the copy by the mode.
use mathlib.Core.Path.{◌∙◌, ◌≡◌, ap, refl, sym}
use Prim.Native.Nat.{◌*◌, ◌+◌, ◌<◌, ◌≤◌, max, suc, zero, ℕ}
use native.Mathlib.Nat.{add-zero, zero-add}
use native.Mathlib.Numerals.{add-one}
use native.Mathlib.Omega.{arith}
use mathlib.Core.Bool.{Bool, cond}
use mathlib.Core.List.{List, ◌++◌, ◌∷◌, append_assoc}
use lib.ListN.{drop, get_or, length, take}
use lib.Seq.{take_all}
use borrow.Author.Tests.{eq-eqb, ne_eqb}
use Rattle.model.specs.Bytes.{list_from, put}
use Rattle.model.specs.State.{State}
use Rattle.model.specs.Picture.{copied, copied_rows, copy_size_of, dot_copy, painting, picture, picture_copy}
use Rattle.model.proofs.ByteLaws.{get_or_list_from, same_list_from}
use Rattle.model.proofs.DotLaws.{dots_copied}
use Rattle.calls.proofs.Printing.{length_rows}
use Rattle.store.proofs.Laws.{put_then}
use Rattle.copies.specs.Copy.{printed, row_copied}

-- one row more
rows_more : (xs : List ℕ) (r n : ℕ) → copied_rows (λ p. get_or xs p 0) r (suc n) ≡ copied_rows (λ p. get_or xs p 0) r n ++ row_copied xs ((r + n) * 80)
unfolding copied_rows row_copied
rows_more xs r zero = rw add-zero
rows_more xs r (suc n) =
    let e : r + suc n ≡ suc r + n = omega arith in
    let row : List ℕ = list_from (printed xs) (r * 80) 80 in
    ap (λ (l : List ℕ). row ++ (13 ∷ 10 ∷ l)) (rows_more xs (suc r) n ∙ ap (λ (k : ℕ). copied_rows (λ p. get_or xs p 0) (suc r) n ++ row_copied xs (k * 80)) (sym e))
    ∙ sym (append_assoc row (13 ∷ 10 ∷ copied_rows (λ p. get_or xs p 0) (suc r) n) (row_copied xs ((r + suc n) * 80)))

-- a turn of the loop: a row put behind those before it
pub copied_more : (from n : ℕ) (xs buffer : List ℕ) {l l' : List ℕ} {b : ℕ} → l ≡ put from (copied_rows (λ p. get_or xs p 0) 0 n) buffer → l' ≡ put b (row_copied xs (n * 80)) l → b ≡ from + n * 82
    → b ≤ length buffer → l' ≡ put from (copied_rows (λ p. get_or xs p 0) 0 (n + 1)) buffer
copied_more from n xs buffer {l} {l'} {b} e e' g h =
    let size : length (copied_rows (λ p. get_or xs p 0) 0 n) ≡ n * 82 = length_rows (λ p. get_or xs p 0) 0 n in
    let next : copied_rows (λ p. get_or xs p 0) 0 (n + 1) ≡ copied_rows (λ p. get_or xs p 0) 0 n ++ row_copied xs (n * 80) = rw (add-one, rows_more xs 0 n, zero-add) in
    e' ∙ put_then from (copied_rows (λ p. get_or xs p 0) 0 n) buffer (omega arith) b (row_copied xs (n * 80)) e (omega arith) ∙ ap (λ (ys : List ℕ). put from ys buffer) (sym next)

-- rows of two pictures that agree
same_rows : (f g : ℕ → ℕ) (r n : ℕ) → ((p : ℕ) → p < (r + n) * 80 → f p ≡ g p) → copied_rows f r n ≡ copied_rows g r n
unfolding copied_rows
same_rows f g r zero h = refl
same_rows f g r (suc n) h =
    λ i. same_list_from (λ p. max 32 (f p)) (λ p. max 32 (g p)) (r * 80) 80 (λ p a b. ap (max 32) (h p (omega arith))) i
    ++ (13 ∷ 10 ∷ same_rows f g (suc r) n (λ p a. h p (omega arith)) i)

-- eight rows of the painted picture
pub copied_all : (st : State) (xs : List ℕ) (n : ℕ) → xs ≡ painting st → n ≡ 8 → copied_rows (λ p. get_or xs p 0) 0 n ≡ picture_copy st
unfolding picture_copy painting
copied_all st xs n e h =
    same_rows (λ p. get_or xs p 0) (picture st) 0 n (λ p l. ap (λ (l : List ℕ). get_or l p 0) e ∙ get_or_list_from (picture st) 640 0 p (omega arith) ∙ ap (picture st) (zero-add p))
    ∙ ap (copied_rows (picture st) 0) h

-- P11: what 80 appends, and how much, by the mode
module _ (st : State) where
  pub copied-there : st.settings.mode ≡ 3 → length st.dots ≡ 3840 → take 3840 (drop 0 st.dots) ≡ copied st
  unfolding copied
  copied-there m n = take_all 3840 st.dots (omega arith) ∙ sym (ap (λ (b : Bool). cond b (dot_copy st) (picture_copy st)) (eq-eqb _ 3 m) ∙ dots_copied st n)

  pub copied_else : (st.settings.mode ≡ 3 → ⊥) → picture_copy st ≡ copied st
  unfolding copied
  copied_else d = ap (λ (b : Bool). cond b (dot_copy st) (picture_copy st)) (sym (ne_eqb _ 3 d))

pub size_there : (mode : ℕ) → mode ≡ 3 → copy_size_of mode ≡ 3840
unfolding copy_size_of
size_there mode m = ap (λ (b : Bool). cond b 3840 656) (eq-eqb mode 3 m)

pub size_else : (mode : ℕ) → (mode ≡ 3 → ⊥) → copy_size_of mode ≡ 656
unfolding copy_size_of
size_else mode d = ap (λ (b : Bool). cond b 3840 656) (ne_eqb mode 3 d)
