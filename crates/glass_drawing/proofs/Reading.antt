-- How a terminal reads what is drawn: bytes in two parts, the address of a place, a letter.
use mathlib.Core.Path.{◌∙◌, ◌≡◌, ap, refl}
use Prim.Native.Nat.{ℕ, suc, ◌/◌, ◌%◌, ◌<◌, ◌≤◌}
use native.Mathlib.Omega.{arith}
use mathlib.Core.Bool.{◌&&◌, true}
use mathlib.Core.List.{List, [], ◌++◌, ◌∷◌}
use lib.ListN.{get_or}
use lib.Dec.{leb}
use borrow.Author.Tests.{le-leb, leb-true, ne_eqb}
use Rattle.model.proofs.Tests.{and_both, and_left, and_right, cond_at}
use Rattle.report.specs.Letters.{letter}
use Rattle.glass_drawing.specs.Drawing.{address_of}
use Rattle.glass_drawing.specs.Seen.{Terminal, column_of, digit, letters, obeyed, placed, reads, row_of, then, within, written}

pub obeyed_append : (t : Terminal) (xs ys : List ℕ) → obeyed t (xs ++ ys) ≡ obeyed (obeyed t xs) ys
unfolding obeyed
obeyed_append t [] ys = refl
obeyed_append t (x ∷ xs) ys = obeyed_append (reads t.reading t x) xs ys

pub within_true : (least most n : ℕ) → least ≤ n → n ≤ most → within least most n ≡ true
unfolding within
within_true least most n h k = and_both (leb least n) (leb n most) (le-leb least n h) (le-leb n most k)

row-digit : (t : Terminal) (n b : ℕ) → 48 ≤ b → b ≤ 57 → reads (row_of n) t b ≡ then t (row_of (digit n b))
unfolding reads
row-digit t n b h k = rw (within_true 48 57 b h k)

column_digit : (t : Terminal) (r n b : ℕ) → 48 ≤ b → b ≤ 57 → reads (column_of r n) t b ≡ then t (column_of r (digit n b))
unfolding reads
column_digit t r n b h k = rw (within_true 48 57 b h k)

end : (t : Terminal) (r c : ℕ) → 1 ≤ r → r ≤ 8 → 1 ≤ c → c ≤ 80 → reads (column_of r c) t 72 ≡ placed t r c
unfolding reads within
end t r c h k l m = rw (le-leb 1 r h, le-leb r 8 k, le-leb 1 c l, le-leb c 80 m)

pub addressed : (t : Terminal) (p : ℕ) → p < 640 → t.reading ≡ letters → obeyed t (address_of p) ≡ placed t (suc (p / 80)) (suc (p % 80))
unfolding obeyed reads address_of within
addressed t p h e =
    let d = get_or (address_of p) 2 0 in
    let x = get_or (address_of p) 4 0 in
    let y = get_or (address_of p) 5 0 in
    let start : obeyed t (address_of p) ≡ obeyed (then t letters) (address_of p) = ap (λ r. obeyed (then t r) (address_of p)) e in
    let row : digit 0 d ≡ suc (p / 80) = omega arith in
    let column : digit (digit 0 x) y ≡ suc (p % 80) = omega arith in
    start
    ∙ ap (λ (u : Terminal). obeyed u (59 ∷ x ∷ y ∷ 72 ∷ [])) (row-digit (then t (row_of 0)) 0 d (omega arith) (omega arith))
    ∙ ap (λ (u : Terminal). obeyed u (y ∷ 72 ∷ [])) (column_digit (then t (column_of (digit 0 d) 0)) (digit 0 d) 0 x (omega arith) (omega arith))
    ∙ ap (λ (u : Terminal). obeyed u (72 ∷ [])) (column_digit (then t (column_of (digit 0 d) (digit 0 x))) (digit 0 d) (digit 0 x) y (omega arith) (omega arith))
    ∙ end (then t (column_of (digit 0 d) (digit (digit 0 x) y))) (digit 0 d) (digit (digit 0 x) y) (omega arith) (omega arith) (omega arith) (omega arith)
    ∙ (λ i. placed t (row i) (column i))

prints : (code : ℕ) → (32 ≤ letter code) × (letter code ≤ 126)
unfolding letter
prints code =
    cond_at (λ (b : ℕ). (32 ≤ b) × (b ≤ 126)) (leb 32 code && leb code 126) code 46
    (λ e. (leb-true _ _ (and_left (leb 32 code) (leb code 126) e), leb-true _ _ (and_right (leb 32 code) (leb code 126) e)))
    (λ e. (omega arith, omega arith))

pub lettered : (t : Terminal) (code : ℕ) → t.reading ≡ letters → 1 ≤ t.column → t.column ≤ 80 → obeyed t (letter code ∷ []) ≡ written t (letter code)
unfolding obeyed reads
lettered t code e h k =
    let b = prints code in
    rw (e, ne_eqb (letter code) 27 (λ z. omega (arith, z, b.0)), within_true 32 126 (letter code) b.0 b.1, within_true 1 80 t.column h k)
