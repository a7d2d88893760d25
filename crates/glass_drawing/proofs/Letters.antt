-- The letters of a row, one behind another.
use mathlib.Core.Path.{◌∙◌, ◌≡◌, ap, refl}
use Prim.Native.Nat.{ℕ, zero, suc, ◌+◌, ◌*◌, ◌<◌}
use native.Mathlib.Numerals.{add-one}
use native.Mathlib.Omega.{arith}
use mathlib.Core.List.{List}
use lib.ListN.{length, length-append}
use Rattle.model.specs.Bytes.{put}
use Rattle.store.proofs.Laws.{put_then}
use Rattle.glass_drawing.specs.Curve.{letter_of, letters_to, pattern_of}

pub length-letters : (dots : List ℕ) (row n : ℕ) → length (letters_to dots row n) ≡ 3 * n
unfolding letters_to
length-letters dots row zero = refl
length-letters dots row (suc n) = length-append (letters_to dots row n) (letter_of (pattern_of dots row n)) ∙ omega (arith, length-letters dots row n)

-- a letter more
pub one_more : (dots : List ℕ) (row n : ℕ) (xs : List ℕ) {l l' : List ℕ} {p : ℕ} → l ≡ put 0 (letters_to dots row n) xs → p ≡ pattern_of dots row n → l' ≡ put (3 * n) (letter_of p) l
    → n < 80 → length xs ≡ 240 → l' ≡ put 0 (letters_to dots row (n + 1)) xs
unfolding letters_to
one_more dots row n xs {l} {l'} {p} e f g few size =
    let long = length-letters dots row n in
    g ∙ ap (λ (q : ℕ). put (3 * n) (letter_of q) l) f ∙ put_then 0 (letters_to dots row n) xs (omega arith) (3 * n) (letter_of (pattern_of dots row n)) e (omega arith) ∙ rw (add-one n)
