-- The bytes of strokes one behind another: what a place puts behind the others, and one turn of the loop over the places.
use mathlib.Core.Path.{◌∙◌, ◌≡◌, ap, refl, sym}
use Prim.Native.Nat.{ℕ, suc, ◌+◌, ◌-◌, ◌<◌, ◌≤◌}
use native.Mathlib.Numerals.{add-one}
use native.Mathlib.Omega.{arith}
use mathlib.Core.Bool.{false, true}
use mathlib.Core.List.{List, [], ◌++◌, ◌∷◌, append_assoc, append-nil}
use lib.ListN.{drop, get_or, length, length-append, replicate, set}
use lib.Seq.{drop-cons, drop-length}
use Rattle.std.proofs.lemmas.List.{drop-drop, drop-replicate, drop-set-lt}
use Rattle.report.specs.Letters.{letter}
use Rattle.glass_drawing.specs.Drawing.{Stroke, address_of, apart, bytes_of, changed, move, strokes, strokes_at, strokes_from, write}

pub bytes_append : (ss ts : List Stroke) → bytes_of (ss ++ ts) ≡ bytes_of ss ++ bytes_of ts
unfolding bytes_of
bytes_append [] ts = refl
bytes_append (move p ∷ ss) ts = ap (λ (l : List ℕ). address_of p ++ l) (bytes_append ss ts) ∙ sym (append_assoc (address_of p) (bytes_of ss) (bytes_of ts))
bytes_append (write c ∷ ss) ts = ap (λ (l : List ℕ). c ∷ l) (bytes_append ss ts)

-- what is drawn behind `drawn` for a place whose letter stays; for one behind a place that was drawn; for any other
module _ (old new : List ℕ) (p : ℕ) (drawn : List ℕ) where
  pub struck_none : changed old new p ≡ false → (drawn ≡ drawn ++ bytes_of (strokes_at old new p)) × (length drawn ≤ length drawn + 8)
  unfolding strokes_at bytes_of
  struck_none e = (rw e (sym (append-nil drawn)), omega arith)

  pub struck_letter : {v : ℕ} {l : List ℕ} → changed old new p ≡ true → apart old new p ≡ false → v ≡ letter (get_or new p 0) → l ≡ drawn ++ (v ∷ [])
      → (l ≡ drawn ++ bytes_of (strokes_at old new p)) × (length l ≤ length drawn + 8)
  unfolding strokes_at bytes_of
  struck_letter {v} e f g h = (rw (e, f, ← g) h, omega (arith, ap length h, length-append drawn (v ∷ [])))

  pub struck_both : {v : ℕ} {head near l : List ℕ} → changed old new p ≡ true → apart old new p ≡ true → v ≡ letter (get_or new p 0) → head ≡ address_of p → near ≡ drawn ++ head
      → l ≡ near ++ (v ∷ []) → (l ≡ drawn ++ bytes_of (strokes_at old new p)) × (length l ≤ length drawn + 8)
  unfolding strokes_at bytes_of address_of
  struck_both {v} e f g a n h =
      let laid = h ∙ ap (λ (x : List ℕ). x ++ (v ∷ [])) (n ∙ ap (λ (x : List ℕ). drawn ++ x) a) ∙ append_assoc drawn (address_of p) (v ∷ []) in
      (rw (e, f, ← g) laid, omega (arith, ap length laid, length-append drawn (address_of p ++ (v ∷ []))))

-- a byte more of those that are put behind `drawn`, and the last of them
pub one_behind : (drawn bytes all : List ℕ) (i : ℕ) → i < length bytes → drawn ++ drop i bytes ≡ all → (drawn ++ (get_or bytes i 0 ∷ [])) ++ drop (i + 1) bytes ≡ all
one_behind drawn bytes all i h e =
    let rest : (get_or bytes i 0 ∷ []) ++ drop (i + 1) bytes ≡ drop i bytes = rw add-one (sym (drop-cons bytes i 0 h)) in
    append_assoc drawn (get_or bytes i 0 ∷ []) (drop (i + 1) bytes) ∙ ap (λ (l : List ℕ). drawn ++ l) rest ∙ e

pub all_behind : (drawn bytes all : List ℕ) (i : ℕ) → i ≡ length bytes → drawn ++ drop i bytes ≡ all → drawn ≡ all
all_behind drawn bytes all i h e = sym (append-nil drawn) ∙ ap (λ (l : List ℕ). drawn ++ l) (sym (drop-length bytes)) ∙ (rw h at e)

-- of the zeros behind what is drawn a byte more takes the first
pub zeros_behind : (bytes : List ℕ) (n most byte : ℕ) → n < most → drop n bytes ≡ replicate (most - n) 0 → drop (n + 1) (set bytes n byte) ≡ replicate (most - (n + 1)) 0
zeros_behind bytes n most byte h e =
    drop-set-lt (n + 1) bytes n byte (omega arith) ∙ sym (drop-drop 1 n bytes) ∙ ap (drop 1) e ∙ drop-replicate 1 (most - n) 0 ∙ ap (λ (k : ℕ). replicate k 0) (omega arith)

-- what is drawn, with what is left to be drawn behind it, is the whole
module _ (old new : List ℕ) (p : ℕ) (drawn : List ℕ) (e : drawn ++ bytes_of (strokes_from old new p (640 - p)) ≡ bytes_of (strokes old new)) where
  pub turn : {drawn' : List ℕ} → p < 640 → drawn' ≡ drawn ++ bytes_of (strokes_at old new p)
      → drawn' ++ bytes_of (strokes_from old new (p + 1) (640 - (p + 1))) ≡ bytes_of (strokes old new)
  unfolding strokes_from
  turn {drawn'} h s =
      let left : 640 - p ≡ suc (640 - suc p) = omega arith in
      let rest = strokes_from old new (suc p) (640 - suc p) in
      let all : drawn ++ bytes_of (strokes_at old new p ++ rest) ≡ bytes_of (strokes old new) = rw left at e in
      rw (add-one p, s) (append_assoc drawn (bytes_of (strokes_at old new p)) (bytes_of rest) ∙ ap (λ (l : List ℕ). drawn ++ l) (sym (bytes_append (strokes_at old new p) rest)) ∙ all)

  pub ended : p ≡ 640 → drawn ≡ bytes_of (strokes old new)
  unfolding strokes_from bytes_of
  ended h = sym (append-nil drawn) ∙ (rw h at e)
