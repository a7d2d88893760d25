-- Bytes listed by a function and put into a store: the one shape of every loop and every call that paints.
use mathlib.Core.Path.{◌∙◌, ◌≡◌, ap, sym}
use Prim.Native.Nat.{◌+◌, ◌<◌, ◌≤◌, suc, zero, ℕ}
use native.Mathlib.Nat.{add-zero, zero-add}
use native.Mathlib.Omega.{arith}
use mathlib.Core.List.{List, ◌++◌, ◌∷◌}
use lib.ListN.{get_or, length, set}
use lib.Seq.{ext_get_or}
use Rattle.model.specs.Bytes.{list_from, put}
use Rattle.model.proofs.ByteLaws.{get_or_list_from, length_list_from}
use Rattle.store.proofs.Laws.{put_all, put-more, put-none, put_then}
use Rattle.views.specs.Painted.{painted}

-- n bytes and m behind them
list_from_then : (f : ℕ → ℕ) (i n m : ℕ) → list_from f i (n + m) ≡ list_from f i n ++ list_from f (i + n) m
list_from_then f i zero m = rw (zero-add, add-zero)
list_from_then f i (suc n) m =
    let e : suc n + m ≡ suc (n + m) = omega arith in
    let g : i + suc n ≡ suc i + n = omega arith in
    rw (e, g) (ap (λ (l : List ℕ). f i ∷ l) (list_from_then f (suc i) n m))

-- bytes that are f's, one by one
pub listed : (f : ℕ → ℕ) (i n : ℕ) (ys : List ℕ) → length ys ≡ n → ((k : ℕ) → k < n → get_or ys k 0 ≡ f (i + k)) → ys ≡ list_from f i n
listed f i n ys e h =
    ext_get_or 0 ys (list_from f i n) (e ∙ sym (length_list_from f i n)) (λ k l. h k (omega arith) ∙ sym (get_or_list_from f n i k (omega arith)))

-- and put where f counts them from
pub put_listed : (f : ℕ → ℕ) (i n : ℕ) (ys xs : List ℕ) → length ys ≡ n → ((k : ℕ) → k < n → get_or ys k 0 ≡ f (i + k)) → put i ys xs ≡ painted i n f xs
unfolding painted
put_listed f i n ys xs e h = ap (λ (zs : List ℕ). put i zs xs) (listed f i n ys e h)

-- a turn of a loop that puts f's bytes, from i on, at a
pub listed_more : (a i n : ℕ) (f : ℕ → ℕ) (xs : List ℕ) {l : List ℕ} {k v : ℕ}
    → l ≡ put a (list_from f i n) xs → k ≡ a + n → v ≡ f (i + n) → k < length xs → set l k v ≡ put a (list_from f i (n + 1)) xs
listed_more a i n f xs e g w h =
    put-more a (list_from f i n) (f (i + n)) xs e (omega (arith, length_list_from f i n)) w (list_from_then f i n 1) h

-- painted: nothing, one place more, and m places behind n
module _ (a : ℕ) (f : ℕ → ℕ) (xs : List ℕ) where
  pub painted-none : xs ≡ painted a 0 f xs
  unfolding painted
  painted-none = sym (put-none a xs)

  pub painted-more : (n : ℕ) {l : List ℕ} {k v : ℕ} → l ≡ painted a n f xs → k ≡ a + n → v ≡ f (a + n) → k < length xs → set l k v ≡ painted a (n + 1) f xs
  unfolding painted
  painted-more n e g w h = listed_more a a n f xs e g w h

  pub painted_next : (n m k : ℕ) {b : ℕ} {l l' : List ℕ} → l ≡ painted a n f xs → l' ≡ painted b m f l → b ≡ a + n → b ≤ length xs → n + m ≡ k → l' ≡ painted a k f xs
  unfolding painted
  painted_next n m k {b} {l} e e' g h w =
      let size : length (list_from f a n) ≡ n = length_list_from f a n in
      e' ∙ put_then a (list_from f a n) xs (omega arith) b (list_from f b m) e (omega arith) ∙ rw (g, ← w, list_from_then f a n m)

-- all places with what stands there
pub painted_same : (n : ℕ) (xs : List ℕ) → length xs ≡ n → xs ≡ painted 0 n (λ p. get_or xs p 0) xs
unfolding painted
painted_same n xs e =
    let f : ℕ → ℕ = λ (p : ℕ). get_or xs p 0 in
    listed f 0 n xs e (λ k l. ap f (sym (zero-add k))) ∙ sym (put_all (list_from f 0 n) xs (length_list_from f 0 n ∙ sym e))
