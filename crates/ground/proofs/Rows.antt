-- Bytes stored in a row: one by one, or put at once. Places of the layer emptied in a row: one by one, or all marks and then all
-- codes.
use mathlib.Core.Path.{◌∙◌, ◌≡◌, ap, refl, sym}
use Prim.Native.Nat.{◌+◌, ◌-◌, ◌<◌, ◌≤◌, min, suc, zero, ℕ}
use native.Mathlib.Nat.{add-suc}
use native.Mathlib.Omega.{arith}
use mathlib.Core.Bool.{Bool, cond, false, true}
use mathlib.Core.List.{List, [], ◌∷◌, append_assoc}
use lib.ListN.{drop, get_or, get_or-replicate, length, length-replicate, replicate, set, take}
use lib.Dec.{ltb}
use lib.Seq.{length-sets, set_comm, set-get_or, sets, sets-eq}
use borrow.Author.Tests.{le-ltb, ltb-false, ltb-true}
use Rattle.model.specs.Bytes.{on_part, put}
use Rattle.model.specs.Rules.{empty_at}
use Rattle.model.proofs.Tests.{cond_at}
use Rattle.ground.specs.Spots.{empty_from}

-- at once as one by one
pub put-sets : (a : ℕ) (ys xs : List ℕ) → a + length ys ≤ length xs → put a ys xs ≡ sets xs a ys
unfolding put on_part
put-sets a ys xs h = sym (sets-eq ys xs a h ∙ append_assoc (take a xs) ys (drop (a + length ys) xs))

-- a byte behind them may be stored before them
sets_behind : (vs l : List ℕ) (i j b : ℕ) → i + length vs ≤ j → sets (set l j b) i vs ≡ set (sets l i vs) j b
sets_behind [] l i j b h = refl
sets_behind (a ∷ vs) l i j b h =
    ap (λ (x : List ℕ). sets x (suc i) vs) (set_comm l j i b a (λ e. omega (arith, e, h))) ∙ sets_behind vs (set l i a) (suc i) j b (omega arith)

-- a place from 640 on is none
pub empty_from-none : (n p : ℕ) (l : List ℕ) → 640 ≤ p → empty_from p n l ≡ l
unfolding empty_from empty_at
empty_from-none zero p l h = refl
empty_from-none (suc n) p l h = rw (le-ltb p 640 h) (empty_from-none n (suc p) l (omega arith))

-- the places of the layer from p on, as far as there are
reach : ℕ → ℕ → List ℕ
reach n p = replicate (min n (640 - p)) 0

empty_from-sets : (n p : ℕ) (l : List ℕ) → empty_from p n l ≡ sets (sets l p (reach n p)) (640 + p) (reach n p)
unfolding empty_from empty_at reach
empty_from-sets zero p l = let z : min 0 (640 - p) ≡ 0 = omega arith in rw z
empty_from-sets (suc n) p l = go (ltb p 640) refl (empty_from-sets n (suc p) (set (set l p 0) (640 + p) 0))
  where
    go : (b : Bool) → ltb p 640 ≡ b → empty_from (suc p) n (set (set l p 0) (640 + p) 0) ≡ sets (sets (set (set l p 0) (640 + p) 0) (suc p) (reach n (suc p))) (640 + suc p) (reach n (suc p))
        → empty_from (suc p) n (cond (ltb p 640) (set (set l p 0) (640 + p) 0) l) ≡ sets (sets l p (reach (suc n) p)) (640 + p) (reach (suc n) p)
    go true e i =
        let h : p < 640 = ltb-true p 640 e in
        let z : List ℕ = reach n (suc p) in
        let m : min (suc n) (640 - p) ≡ suc (min n (640 - suc p)) = omega (arith, h) in
        let k : suc p + length z ≤ 640 + p = omega (arith, length-replicate {A = ℕ} (min n (640 - suc p)) 0) in
        rw (e, m) (i ∙ rw (add-suc, sets_behind z (set l p 0) (suc p) (640 + p) 0 k))
    go false e i =
        let h : 640 ≤ p = ltb-false p 640 e in
        let z : min (suc n) (640 - p) ≡ 0 = omega (arith, h) in
        rw (e, z) (empty_from-none n (suc p) l (omega (arith, h)))

-- the marks and then the codes
pub empty_from-put : {m : ℕ} (n p : ℕ) (l : List ℕ) → p < 640 → length l ≡ 1280 → m ≡ min n (640 - p) → put (640 + p) (replicate m 0) (put p (replicate m 0) l) ≡ empty_from p n l
unfolding reach
empty_from-put n p l h s e =
    let k : length (reach n p) ≡ min n (640 - p) = length-replicate {A = ℕ} (min n (640 - p)) 0 in
    rw e (ap (put (640 + p) (reach n p)) (put-sets p (reach n p) l (omega arith))
    ∙ put-sets (640 + p) (reach n p) (sets l p (reach n p)) (omega (arith, length-sets l p (reach n p))) ∙ sym (empty_from-sets n p l))

-- places of an empty layer
zeros_set : (l : List ℕ) (k : ℕ) → l ≡ replicate 1280 0 → k < 1280 → set l k 0 ≡ l
zeros_set l k e h = ap (set l k) (sym (ap (λ (x : List ℕ). get_or x k 0) e ∙ get_or-replicate 1280 k 0 0 h)) ∙ set-get_or l k 0

pub empty_at_bare : (n : ℕ) (l : List ℕ) → l ≡ replicate 1280 0 → empty_at n l ≡ l
unfolding empty_at
empty_at_bare n l e =
    cond_at (λ (x : List ℕ). x ≡ l) (ltb n 640) _ _
    (λ t. let h : n < 640 = ltb-true n 640 t in ap (λ (x : List ℕ). set x (640 + n) 0) (zeros_set l n e (omega arith)) ∙ zeros_set l (640 + n) e (omega arith))
    (λ f. refl)

pub empty_from_bare : (n p : ℕ) (l : List ℕ) → l ≡ replicate 1280 0 → empty_from p n l ≡ l
unfolding empty_from
empty_from_bare zero p l e = refl
empty_from_bare (suc n) p l e = ap (empty_from (suc p) n) (empty_at_bare p l e) ∙ empty_from_bare n (suc p) l e

-- a place that is none is 640 as well
pub empty_at_none : (p : ℕ) (l : List ℕ) → empty_at (min 640 p) l ≡ empty_at p l
unfolding empty_at
empty_at_none p l = go (ltb p 640) refl
  where
    go : (b : Bool) → ltb p 640 ≡ b → empty_at (min 640 p) l ≡ empty_at p l
    go true e = let z : min 640 p ≡ p = omega (arith, ltb-true p 640 e) in ap (λ (x : ℕ). empty_at x l) z
    go false e = let z : min 640 p ≡ 640 = omega (arith, ltb-false p 640 e) in rw (z, e)
