-- How a region whose kept part is moved, and the blanking after it, is a scrolled region.
use mathlib.Core.Path.{◌∙◌, ◌≡◌, ap, sym}
use Prim.Native.Nat.{◌+◌, ◌-◌, ◌≤◌, ℕ}
use native.Mathlib.Nat.{zero-add}
use native.Mathlib.Omega.{arith}
use mathlib.Core.List.{List, [], ◌++◌, append-nil}
use lib.ListN.{drop, drop_of_length-le, length, length-append, length-drop, length-replicate, length-take, replicate, take}
use lib.Seq.{drop_at, length-take-le, take_all}
use Rattle.model.specs.Bytes.{blanked, on_part, put, scrolled_down, scrolled_up}
use Rattle.model.proofs.ByteLaws.{length-put}
use Rattle.store.proofs.Laws.{fill_put, put_all, put_then}

-- up: the bytes from w on moved to the front, the end blanked
pub up_made : (w n : ℕ) (d : List ℕ) {l : List ℕ} → l ≡ put 0 (take n (drop w d)) d → n ≡ length d - w → w ≤ length d → on_part n w blanked l ≡ scrolled_up w d
unfolding blanked scrolled_up
up_made w n d {l} made g h =
    let size : length (drop w d) ≡ n = length-drop w d ∙ omega arith in
    let front : take n (drop w d) ≡ drop w d = take_all n (drop w d) (omega arith) in
    let made : l ≡ put 0 (drop w d) d = rw front at made in
    let back : length d - length (drop w d) ≡ w = omega arith in
    let full : length (drop w d ++ replicate w 32) ≡ length d = simp (length-append, length-replicate) (omega arith) in
    fill_put n w 32 l (omega (arith, ap length made, length-put 0 (drop w d) d (omega arith)))
    ∙ put_then 0 (drop w d) d (omega arith) n (replicate w 32) made (omega arith) ∙ put_all (drop w d ++ replicate w 32) d full ∙ rw back

-- down: the bytes but the last w moved behind the first w, the front blanked
pub down_made : (w n : ℕ) (d : List ℕ) {l : List ℕ} → l ≡ put w (take n (drop 0 d)) d → n ≡ length d - w → w ≤ length d → on_part 0 w blanked l ≡ scrolled_down w d
unfolding put on_part blanked scrolled_down
down_made w n d {l} made g h =
    let kept : List ℕ = take n d in
    let size : length kept ≡ n = length-take-le n d (omega arith) in
    let rest : drop (w + length kept) d ≡ [] = drop_of_length-le d {i = w + length kept} (omega arith) in
    let made : l ≡ take w d ++ kept = made ∙ ap (λ (e : List ℕ). take w d ++ (kept ++ e)) rest ∙ ap (λ (e : List ℕ). take w d ++ e) (append-nil kept) in
    let first : length d - length kept ≡ w = omega arith in
    let a : drop w (take w d ++ kept) ≡ kept = drop_at (take w d) kept w (length-take-le w d h) in
    let m : length (take w (take w d ++ kept)) ≡ w = simp (length-take, length-append) (omega arith) in
    rw (made, sym g, first, zero-add, m, a)
