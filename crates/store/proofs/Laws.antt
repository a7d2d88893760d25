-- Laws of stores that change by parts: bytes put into a store one after the other, and what comes home from a part that was
-- lent. `lent` and those of `put` are for the crates above too.
use mathlib.Core.Path.{◌∙◌, ◌≡◌, ap, refl, sym}
use Prim.Native.Nat.{◌+◌, ◌-◌, ◌<◌, ◌≤◌, ℕ}
use native.Mathlib.Nat.{add-zero, zero-add}
use native.Mathlib.Numerals.{add-one}
use native.Mathlib.Omega.{arith}
use mathlib.Core.List.{List, [], ◌++◌, ◌∷◌, append_assoc, append-nil}
use lib.ListN.{get_or-append, drop, drop_of_length-le, get_or, length, length-append, length-drop, length-replicate, length-take, replicate, replicate-append-replicate, set, take, take-append-drop}
use lib.Seq.{drop_at, drop-drop, get_or-append-add, get_or-drop, length-take-le, set_split, take_at, take-suc}
use Rattle.model.specs.Bytes.{on_part, put}
use Rattle.model.proofs.ByteLaws.{length-put}

-- what comes home from a part that was lent, `&mut xs[from..to]`, is on_part of what its borrower did
pub lent : (from count n : ℕ) (f : List ℕ → List ℕ) (xs : List ℕ) {ys : List ℕ} → ys ≡ f (take n (drop from xs)) → n ≡ count → take from xs ++ (ys ++ drop n (drop from xs)) ≡ on_part from count f xs
unfolding on_part
lent from count n f xs e g = rw (e, g, drop-drop)

-- a part filled with one byte
pub fill_put : (from count v : ℕ) (xs : List ℕ) → from + count ≤ length xs → on_part from count (λ ys. replicate (length ys) v) xs ≡ put from (replicate count v) xs
unfolding put on_part
fill_put from count v xs h =
    let n : length (take count (drop from xs)) ≡ count = simp (length-take, length-drop) (omega arith) in
    rw (n, length-replicate {A = ℕ} count v)

-- so a part that was lent to be filled
pub lent_filled : (from count n v : ℕ) (xs : List ℕ) {ys : List ℕ} → ys ≡ replicate (length (take n (drop from xs))) v → n ≡ count → from + count ≤ length xs
    → take from xs ++ (ys ++ drop n (drop from xs)) ≡ put from (replicate count v) xs
lent_filled from count n v xs e g h = lent from count n (λ ys. replicate (length ys) v) xs e g ∙ fill_put from count v xs h

-- nothing put
pub put-none : (a : ℕ) (xs : List ℕ) → put a [] xs ≡ xs
unfolding put on_part
put-none a xs = rw add-zero (take-append-drop a xs)

-- as many bytes as the store has
pub put_all : (ys xs : List ℕ) → length ys ≡ length xs → put 0 ys xs ≡ ys
unfolding put on_part
put_all ys xs e = rw (zero-add, e, drop_of_length-le xs {i = length xs} (omega arith), append-nil)

-- a store into which bytes were put: those before them and they, then what stood behind them
module _ (a : ℕ) (ys xs : List ℕ) (fits : a + length ys ≤ length xs) where
  upto : length (take a xs ++ ys) ≡ a + length ys
  upto = simp (length-append, length-take) (omega arith)

  split : put a ys xs ≡ (take a xs ++ ys) ++ drop (a + length ys) xs
  unfolding put on_part
  split = sym (append_assoc (take a xs) ys (drop (a + length ys) xs))

  behind : (m : ℕ) → drop (a + length ys + m) (put a ys xs) ≡ drop (a + length ys + m) xs
  behind m =
      sym (drop-drop m (a + length ys) (put a ys xs)) ∙ ap (λ (l : List ℕ). drop m (drop (a + length ys) l)) split
      ∙ ap (drop m) (drop_at (take a xs ++ ys) (drop (a + length ys) xs) (a + length ys) upto) ∙ drop-drop m (a + length ys) xs

  -- the front, with them, and what stands behind them
  pub put_front : take (a + length ys) (put a ys xs) ≡ take a xs ++ ys
  put_front = ap (take (a + length ys)) split ∙ take_at (take a xs ++ ys) (drop (a + length ys) xs) (a + length ys) upto

  pub put_rest : drop (a + length ys) (put a ys xs) ≡ drop (a + length ys) xs
  put_rest = rw add-zero at (behind 0)

  -- what is not overwritten stands as it was
  pub put_ahead : (k : ℕ) → a + length ys ≤ k → get_or (put a ys xs) k 0 ≡ get_or xs k 0
  put_ahead k h =
      let e : a + length ys + (k - (a + length ys)) ≡ k = omega arith in
      let e₂ : k ≡ k + 0 = omega arith in
      let z : drop k (put a ys xs) ≡ drop k xs = rw e at (behind (k - (a + length ys))) in
      ap (λ (i : ℕ). get_or (put a ys xs) i 0) e₂ ∙ sym (get_or-drop k (put a ys xs) 0 0) ∙ ap (λ (l : List ℕ). get_or l 0 0) z ∙ get_or-drop k xs 0 0
      ∙ ap (λ (i : ℕ). get_or xs i 0) (sym e₂)

  -- the bytes that were put
  pub put_inside : (k : ℕ) → k < length ys → get_or (put a ys xs) (a + k) 0 ≡ get_or ys k 0
  unfolding put on_part
  put_inside k h =
      let n : length (take a xs) ≡ a = length-take-le a xs (omega arith) in
      ap (λ (i : ℕ). get_or (put a ys xs) (i + k) 0) (sym n) ∙ get_or-append-add (take a xs) (ys ++ drop (a + length ys) xs) k 0
      ∙ get_or-append ys (drop (a + length ys) xs) 0 k h

  -- more bytes behind them
  pub put_then : (b : ℕ) (zs : List ℕ) {l : List ℕ} → l ≡ put a ys xs → b ≡ a + length ys → put b zs l ≡ put a (ys ++ zs) xs
  unfolding put on_part
  put_then b zs e i =
      let k : a + length ys + length zs ≡ a + length (ys ++ zs) = simp length-append (omega arith) in
      rw (e, i, put_front, behind (length zs), k, append_assoc (take a xs), ← append_assoc ys)

  -- as many other bytes over them, or more
  pub put_over : (zs : List ℕ) → length ys ≤ length zs → put a zs (put a ys xs) ≡ put a zs xs
  unfolding put on_part
  put_over zs h =
      let f : take a (put a ys xs) ≡ take a xs = take_at (take a xs) (ys ++ drop (a + length ys) xs) a (length-take-le a xs (omega arith)) in
      let e : a + length ys + (length zs - length ys) ≡ a + length zs = omega arith in
      let b : drop (a + length zs) (put a ys xs) ≡ drop (a + length zs) xs = rw e at (behind (length zs - length ys)) in
      rw (f, b)

-- one byte stored
put_one : (k v : ℕ) (xs : List ℕ) → k < length xs → set xs k v ≡ put k (v ∷ []) xs
unfolding put on_part
put_one k v xs h = rw (set_split xs k v h, add-one)

-- a turn of a loop that puts byte after byte: xs stood at first, l stands now, and w is the byte behind ys
pub put-more : (a : ℕ) (ys : List ℕ) (w : ℕ) (xs : List ℕ) {l zs : List ℕ} {k v : ℕ}
    → l ≡ put a ys xs → k ≡ a + length ys → v ≡ w → zs ≡ ys ++ (w ∷ []) → k < length xs → set l k v ≡ put a zs xs
put-more a ys w xs {l} {zs} {k} {v} e i f z h =
    let size : length l ≡ length xs = ap length e ∙ length-put a ys xs (omega arith) in
    put_one k v l (omega arith) ∙ put_then a ys xs (omega arith) k (v ∷ []) e i ∙ rw (f, z)

-- two bytes more
pub put_two : (a : ℕ) (ys : List ℕ) (v w : ℕ) (xs : List ℕ) {l : List ℕ} {k k' : ℕ}
    → l ≡ put a ys xs → k ≡ a + length ys → k' ≡ k + 1 → k' < length xs → set (set l k v) k' w ≡ put a (ys ++ (v ∷ w ∷ [])) xs
put_two a ys v w xs e i i' h =
    let n : length (ys ++ (v ∷ [])) ≡ length ys + 1 = length-append ys (v ∷ []) in
    put-more a (ys ++ (v ∷ [])) w xs (put-more a ys v xs e i refl refl (omega arith)) (omega arith) refl (sym (append_assoc ys (v ∷ []) (w ∷ []))) h

-- one byte more: of a list, of bytes that are alike
pub take_more : (xs : List ℕ) (i : ℕ) → i < length xs → take (i + 1) xs ≡ take i xs ++ (get_or xs i 0 ∷ [])
take_more xs i h = rw (add-one, take-suc xs i 0 h)

pub replicate_more : (i v : ℕ) → replicate (i + 1) v ≡ replicate i v ++ (v ∷ [])
replicate_more i v = sym (replicate-append-replicate i 1 v)
