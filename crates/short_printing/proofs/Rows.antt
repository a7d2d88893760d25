-- Bytes painted at places in a row: one by one, or put at once as far as there are places.
use mathlib.Core.Path.{◌∙◌, ◌≡◌, ap, refl, sym}
use Prim.Native.Nat.{◌+◌, ◌-◌, ◌<◌, ◌≤◌, min, suc, zero, ℕ}
use native.Mathlib.Nat.{suc-add}
use native.Mathlib.Omega.{arith}
use mathlib.Core.Bool.{Bool, cond, false, true}
use mathlib.Core.List.{List, [], ◌∷◌}
use lib.ListN.{drop, length, length-drop, length-replicate, length-set, length-take, replicate, set, take}
use lib.Dec.{ltb}
use lib.Seq.{set_out, sets}
use borrow.Author.Tests.{eq-eqb, ltb-false, ltb-true, ne_eqb}
use Rattle.model.specs.Bytes.{put}
use Rattle.ground.proofs.Rows.{put-sets}
use Rattle.short_printing.specs.Seen.{shown_from, veiled}

-- a place from 640 on is none, whichever it is
pub set_spot : (x : List ℕ) (a b v : ℕ) → length x ≡ 640 → min 640 a ≡ min 640 b → set x a v ≡ set x b v
set_spot x a b v n e = go (ltb a 640) refl
  where
    go : (t : Bool) → ltb a 640 ≡ t → set x a v ≡ set x b v
    go true h = let z : a ≡ b = omega (arith, ltb-true a 640 h, e) in ap (λ (k : ℕ). set x k v) z
    go false h = set_out x a v (omega (arith, n, ltb-false a 640 h)) ∙ sym (set_out x b v (omega (arith, n, ltb-false a 640 h, e)))

module _ (secret : ℕ) where
  -- from the end on there is no place
  pub none_shown : (bs : List ℕ) (p : ℕ) (x : List ℕ) → length x ≤ p → shown_from secret p bs x ≡ x
  unfolding shown_from
  none_shown [] p x h = refl
  none_shown (b ∷ bs) p x h = ap (shown_from secret (suc p) bs) (set_out x p (veiled secret b) h) ∙ none_shown bs (suc p) x (omega (arith, h))

  -- so bytes behind the last place may be left out
  cut_shown : (n k : ℕ) (zs : List ℕ) (p : ℕ) (x : List ℕ) → length x ≤ p + n → shown_from secret p (take n zs) x ≡ shown_from secret p (take (n + k) zs) x
  unfolding shown_from
  cut_shown zero k zs p x h = sym (none_shown (take (0 + k) zs) p x (omega (arith, h)))
  cut_shown (suc n) k [] p x h = rw (suc-add n k)
  cut_shown (suc n) k (z ∷ zs) p x h = rw (suc-add n k) (cut_shown n k zs (suc p) (set x p (veiled secret z)) (omega (arith, h, length-set x p (veiled secret z))))

  -- "32 everywhere while secret is on"
  blanks : secret ≡ 1 → (bs : List ℕ) (p : ℕ) (x : List ℕ) → shown_from secret p bs x ≡ sets x p (replicate (length bs) 32)
  unfolding shown_from
  blanks e [] p x = refl
  blanks e (b ∷ bs) p x = ap (λ (t : Bool). shown_from secret (suc p) bs (set x p (cond t 32 b))) (eq-eqb secret 1 e) ∙ blanks e bs (suc p) (set x p 32)

  -- else the bytes
  plain : (secret ≡ 1 → ⊥) → (bs : List ℕ) (p : ℕ) (x : List ℕ) → shown_from secret p bs x ≡ sets x p bs
  unfolding shown_from
  plain e [] p x = refl
  plain e (b ∷ bs) p x = ap (λ (t : Bool). shown_from secret (suc p) bs (set x p (cond t 32 b))) (ne_eqb secret 1 e) ∙ plain e bs (suc p) (set x p b)

  -- as many as there are places for, put at once
  module _ (m : List ℕ) (at count p : ℕ) (x : List ℕ) {n : ℕ} (size : length x ≡ 640) (low : p < 640) (inside : at + count ≤ length m) (n-is : n ≡ min count (640 - p)) where
    few : length (take n (drop at m)) ≡ n
    few = simp (length-take, length-drop) (omega (arith, inside, n-is))

    enough : shown_from secret p (take n (drop at m)) x ≡ shown_from secret p (take count (drop at m)) x
    enough = go (ltb n count) refl
      where
        go : (b : Bool) → ltb n count ≡ b → shown_from secret p (take n (drop at m)) x ≡ shown_from secret p (take count (drop at m)) x
        go true h =
            let k : n + (count - n) ≡ count = omega (arith, ltb-true n count h) in
            cut_shown n (count - n) (drop at m) p x (omega (arith, n-is, ltb-true n count h, size)) ∙ ap (λ (j : ℕ). shown_from secret p (take j (drop at m)) x) k
        go false h = let k : n ≡ count = omega (arith, ltb-false n count h, n-is) in ap (λ (j : ℕ). shown_from secret p (take j (drop at m)) x) k

    pub blanks_put : {l : List ℕ} → secret ≡ 1 → l ≡ put p (replicate n 32) x → l ≡ shown_from secret p (take count (drop at m)) x
    blanks_put e f =
        f ∙ put-sets p (replicate n 32) x (omega (arith, length-replicate {A = ℕ} n 32, n-is, size))
        ∙ ap (λ (k : ℕ). sets x p (replicate k 32)) (sym few) ∙ sym (blanks e (take n (drop at m)) p x) ∙ enough

    pub bytes_put : {l : List ℕ} → (secret ≡ 1 → ⊥) → l ≡ put p (take n (drop at m)) x → l ≡ shown_from secret p (take count (drop at m)) x
    bytes_put e f = f ∙ put-sets p (take n (drop at m)) x (omega (arith, few, n-is, size)) ∙ sym (plain e (take n (drop at m)) p x) ∙ enough
