-- The layer laid over places that are painted: it lies over what they show, and an empty one changes nothing.
use mathlib.Core.Path.{◌∙◌, ◌≡◌, ap, sym}
use Prim.Native.Nat.{◌+◌, ◌-◌, ◌<◌, ◌≤◌, ℕ}
use native.Mathlib.Omega.{arith}
use mathlib.Core.List.{List}
use lib.ListN.{get_or, get_or-replicate, length, replicate}
use Rattle.model.specs.Bytes.{list_from, put}
use Rattle.model.proofs.ByteLaws.{get_or_list_from, length_list_from, same_list_from}
use Rattle.store.proofs.Laws.{put_inside, put_over}
use Rattle.paint.specs.Shown.{laid, covered_by}
use Rattle.views.specs.Painted.{painted}

-- the layer laid over places that are painted
module _ (a n : ℕ) (f : ℕ → ℕ) (layer xs : List ℕ) (fits : a + n ≤ length xs) where
  -- what stands at such a place
  there : {l : List ℕ} → l ≡ painted a n f xs → (p : ℕ) → a ≤ p → p < a + n → get_or l p 0 ≡ f p
  unfolding painted
  there e p g h =
      let at : a + (p - a) ≡ p = omega arith in
      ap (λ (l : List ℕ). get_or l p 0) e ∙ ap (λ (k : ℕ). get_or (put a (list_from f a n) xs) k 0) (sym at)
      ∙ put_inside a (list_from f a n) xs (omega (arith, length_list_from f a n)) (p - a) (omega (arith, length_list_from f a n))
      ∙ get_or_list_from f n a (p - a) (omega arith) ∙ ap f at

  -- it lies over what f says
  pub painted_over : {l l' : List ℕ} → l ≡ painted a n f xs → l' ≡ painted a n (laid layer (λ p. get_or l p 0)) l → l' ≡ painted a n (laid layer f) xs
  unfolding painted laid
  painted_over {l} e e' =
      let g : ℕ → ℕ = laid layer (λ p. get_or l p 0) in
      let same : list_from g a n ≡ list_from (laid layer f) a n =
      same_list_from g (laid layer f) a n (λ p b h. ap (covered_by (get_or layer p 0) (get_or layer (640 + p) 0)) (there e p b h)) in
      let size : length (list_from f a n) ≤ length (list_from (laid layer f) a n) = omega (arith, length_list_from f a n, length_list_from (laid layer f) a n) in
      e' ∙ rw (same, e) (put_over a (list_from f a n) xs (omega (arith, length_list_from f a n)) (list_from (laid layer f) a n) size)

-- an empty layer changes nothing
pub painted_bare : (a n m : ℕ) (f : ℕ → ℕ) (layer xs : List ℕ) → layer ≡ replicate m 0 → a + n ≤ m → painted a n f xs ≡ painted a n (laid layer f) xs
unfolding painted laid
painted_bare a n m f layer xs e h =
    ap (λ (ys : List ℕ). put a ys xs) (same_list_from f (laid layer f) a n
    (λ p b k. ap (λ (mark : ℕ). covered_by mark (get_or layer (640 + p) 0) (f p)) (sym (ap (λ (l : List ℕ). get_or l p 0) e ∙ get_or-replicate m p 0 0 (omega arith)))))
