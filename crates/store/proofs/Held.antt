-- Bytes that are taken up and laid down, and a block that is laid over the end of those before it.
use mathlib.Core.Path.{◌∙◌, ◌≡◌, ap, refl, subst, sym}
use Prim.Native.Nat.{◌+◌, ◌-◌, ◌<◌, ◌≤◌, ℕ}
use native.Mathlib.Omega.{arith}
use mathlib.Core.List.{List, ◌++◌}
use lib.ListN.{drop, get_or, get_or-replicate, length, length-drop, length-replicate, length-take, replicate, take}
use lib.Seq.{drop-drop, ext_get_or, take-add, take_at}
use lib.Bits.{and_le_l, and_le_r, bit_or, or_add_and}
use lib.Dec.{eqb}
use borrow.Author.Tests.{eqb-false, eqb-true}
use Rattle.model.specs.Bytes.{on_part, put}
use Rattle.model.proofs.Tests.{cond_at}
use Rattle.model.proofs.ByteLaws.{length-put}
use Rattle.store.proofs.Laws.{put_over, put_then}

-- n bytes of src, taken up into h and laid down in dst
pub held : (n at from : ℕ) (src h dst : List ℕ) {h' l : List ℕ} → h' ≡ put 0 (take n (drop at src)) h → l ≡ put from (take n (drop 0 h')) dst → at + n ≤ length src → l ≡ put from (take n (drop at src)) dst
unfolding put on_part
held n at from src h dst up down fits =
    let ys : List ℕ = take n (drop at src) in
    let size : length ys ≡ n = simp (length-take, length-drop) (omega arith) in
    down ∙ ap (λ (zs : List ℕ). put from zs dst) (ap (take n) up ∙ take_at ys (drop (0 + length ys) h) n size)

-- the first i bytes of part of src stand in dst; n from its byte b on are laid over their end
pub block : (from at i b n : ℕ) (src dst : List ℕ) {l l' : List ℕ} → l ≡ put from (take i (drop at src)) dst → l' ≡ put (from + b) (take n (drop (at + b) src)) l
    → b ≤ i → i ≤ b + n → at + (b + n) ≤ length src → from + (b + n) ≤ length dst → l' ≡ put from (take (b + n) (drop at src)) dst
block from at i b n src dst e e' low high inside fits =
    let xs : List ℕ = drop at src in
    let ys : List ℕ = take b xs in
    let over : List ℕ = take (i - b) (drop b xs) in
    let zs : List ℕ = take n (drop b xs) in
    let size : length xs ≡ length src - at = length-drop at src in
    let ny : length ys ≡ b = simp length-take (omega arith) in
    let no : length over ≡ i - b = simp (length-take, length-drop) (omega arith) in
    let nz : length zs ≡ n = simp (length-take, length-drop) (omega arith) in
    let whole : i ≡ b + (i - b) = omega arith in
    let parts : take i xs ≡ ys ++ over = ap (λ (k : ℕ). take k xs) whole ∙ take-add b (i - b) xs in
    let mid : List ℕ = put from ys dst in
    let nm : length mid ≡ length dst = length-put from ys dst (omega arith) in
    let before : put from (ys ++ over) dst ≡ put (from + b) over mid = sym (put_then from ys dst (omega arith) (from + b) over refl (omega arith)) in
    e' ∙ rw (sym (drop-drop b at src)) (ap (put (from + b) zs) (e ∙ ap (λ (k : List ℕ). put from k dst) parts ∙ before))
    ∙ put_over (from + b) over mid (omega arith) zs (omega arith)
    ∙ put_then from ys dst (omega arith) (from + b) zs refl (omega arith)
    ∙ ap (λ (k : List ℕ). put from k dst) (sym (take-add b n xs))

-- the bits of both: no less than either, and 0 only of two zeros
pub either : (x y : ℕ) → (x ≤ bit_or x y) × ((y ≤ bit_or x y) × (bit_or x y ≤ x + y))
either x y =
    (omega (arith, or_add_and x y, and_le_r x y), (omega (arith, or_add_and x y, and_le_l x y), omega (arith, or_add_and x y)))

-- one byte more that is no greater than what is kept
pub seen : (xs : List ℕ) (i : ℕ) {a b : ℕ} → ((k : ℕ) → k < i → get_or xs k 0 ≤ a) → a ≤ b → get_or xs i 0 ≤ b → (k : ℕ) → k < i + 1 → get_or xs k 0 ≤ b
seen xs i {a} {b} h low here k l =
    cond_at {A = ℕ} (λ z. get_or xs k 0 ≤ b) (eqb k i) 0 0
    (λ t. subst (λ (n : ℕ). get_or xs n 0 ≤ b) (sym (eqb-true k i t)) here)
    (λ f. omega (arith, h k (omega (arith, eqb-false k i f))))

-- no byte is greater than 0
pub zeros : (xs : List ℕ) → ((k : ℕ) → k < length xs → get_or xs k 0 ≤ 0) → xs ≡ replicate (length xs) 0
zeros xs h = ext_get_or 0 xs (replicate (length xs) 0) (sym (length-replicate (length xs) 0)) (λ k l. let z : get_or xs k 0 ≡ 0 = omega (arith, h k l) in z ∙ sym (get_or-replicate (length xs) k 0 0 l))

pub zero_at : (xs : List ℕ) (k : ℕ) → k < length xs → xs ≡ replicate (length xs) 0 → get_or xs k 0 ≡ 0
zero_at xs k l e = ap (λ (ys : List ℕ). get_or ys k 0) e ∙ get_or-replicate (length xs) k 0 0 l
