-- How many bytes an item needs, from what the code looks at: its first byte, and of a sequence its second and third.
use mathlib.Core.Path.{◌∙◌, ◌≡◌, ap, refl, subst, sym}
use mathlib.Core.Logic.{⊎_elim}
use Prim.Native.Nat.{ℕ, ◌<◌, ◌≤◌}
use native.Mathlib.Nat.{eq-or-lt_of_le}
use native.Mathlib.Omega.{arith}
use mathlib.Core.Bool.{Bool, true, false, cond}
use mathlib.Core.List.{List, [], ◌∷◌}
use lib.ListN.{get_or, length, take}
use lib.Seq.{get_or-take, length-take-le}
use lib.Dec.{eqb}
use borrow.Author.Tests.{eq-eqb, ne_eqb}
use Rattle.model.specs.Sequences.{Row, find, mode_row_of, refusal, row_of, rows}
use Rattle.model.specs.Reading.{after_escape, after_mode, needed}
use Rattle.model.proofs.Gathering.{escape_order, in_order}
use Rattle.tables.specs.Lengths.{length_of}
use Rattle.decoding.proofs.Found.{mode_least, row-least, two_defaults}

-- the length by a second and a third byte, where the test for 208 is decided, whenever it is asked: as `length_of` has it, and by the rules
abbrev ours : ℕ → ℕ → Bool → ℕ
ours c k b = cond b (mode_row_of k).bytes (find (refusal 0 0 10 0) rows c).bytes

abbrev pub theirs : ℕ → ℕ → Bool → ℕ
theirs c k b = cond b (mode_row_of k).bytes (row_of c).bytes

length_order : (c k : ℕ) → length_of c k ≡ ours c k (eqb c 208)
unfolding length_of
length_order c k = in_order c (mode_row_of k).bytes 0

module _ (c k : ℕ) where
  listed : (b : Bool) → (ours c k b ≡ 0 → ⊥) → theirs c k b ≡ ours c k b
  unfolding row_of
  listed true h = refl
  listed false h = ⊎_elim (λ d. absurd (h (ap (λ (r : Row). r.bytes) d.0))) (λ s. ap (λ (r : Row). r.bytes) (sym s)) (two_defaults (refusal 0 0 10 0) (refusal 0 2 10 0) rows c)

  pub length_listed : (length_of c k ≡ 0 → ⊥) → theirs c k (eqb c 208) ≡ length_of c k
  length_listed h = listed (eqb c 208) (λ z. h (length_order c k ∙ z)) ∙ sym (length_order c k)

  unlisted : (b : Bool) → ours c k b ≡ 0 → (b ≡ false) × (row_of c ≡ refusal 0 2 10 0)
  unfolding row_of
  unlisted true h = absurd (omega (arith, mode_least k))
  unlisted false h = (refl, ⊎_elim (λ d. d.1) (λ s. absurd (omega (arith, row-least c, ap (λ (r : Row). r.bytes) s))) (two_defaults (refusal 0 0 10 0) (refusal 0 2 10 0) rows c))

  -- a byte that is not in the list
  pub length_none : length_of c k ≡ 0 → (eqb c 208 ≡ false) × (row_of c ≡ refusal 0 2 10 0)
  length_none h = unlisted (eqb c 208) (sym (length_order c k) ∙ h)

  least : (b : Bool) → 2 ≤ theirs c k b
  least true = omega (arith, mode_least k)
  least false = row-least c

  length-least : (length_of c k ≡ 0 → ⊥) → 2 ≤ length_of c k
  length-least h = rw (length_listed h) at (least (eqb c 208))

  -- the third byte matters only where there are three
  free : (j : ℕ) (b : Bool) → ours c k b < 3 → ours c j b ≡ ours c k b
  free j true h = absurd (omega (arith, mode_least k))
  free j false h = refl

  third_free : (j : ℕ) → length_of c k < 3 → length_of c j ≡ length_of c k
  third_free j h = length_order c j ∙ free j (eqb c 208) (subst (λ (n : ℕ). n < 3) (length_order c k) h) ∙ sym (length_order c k)

-- the length that the second and third byte say
abbrev pub said : List ℕ → ℕ
said bs = length_of (get_or bs 1 0) (get_or bs 2 0)

-- a printed byte or a code
pub needed-plain : (bs : List ℕ) → 1 ≤ length bs → (get_or bs 0 0 ≡ 27 → ⊥) → needed bs ≡ 1
unfolding needed
needed-plain [] l e = absurd (omega arith)
needed-plain (b ∷ bs) l e = rw (ne_eqb b 27 e)

-- ESC at the very end
pub needed_alone : (bs : List ℕ) → length bs < 2 → get_or bs 0 0 ≡ 27 → length bs < needed bs
unfolding needed after_escape
needed_alone [] l e = omega arith
needed_alone (b ∷ []) l e = rw (eq-eqb b 27 e) (omega arith)
needed_alone (b ∷ c ∷ bs) l e = absurd (omega arith)

-- a byte that is not in the list
pub needed_unlisted : (bs : List ℕ) → 2 ≤ length bs → get_or bs 0 0 ≡ 27 → said bs ≡ 0 → needed bs ≡ 2
unfolding needed
needed_unlisted [] l e h = absurd (omega arith)
needed_unlisted (b ∷ []) l e h = absurd (omega arith)
needed_unlisted (b ∷ c ∷ bs) l e h = let u = length_none c (get_or bs 0 0) h in rw (eq-eqb b 27 e, escape_order c bs, u.0, u.1)

-- two bytes are all there is: of 208 the third is still to come
module _ (c n : ℕ) where
  two_whole : (b : Bool) → theirs c 0 b ≡ n → n ≤ 2 → cond b 3 (row_of c).bytes ≡ n
  two_whole true e h = absurd (omega (arith, mode_least 0))
  two_whole false e h = e

  two_cut : (b : Bool) → theirs c 0 b ≡ n → 2 < n → 2 < cond b 3 (row_of c).bytes
  two_cut true e h = omega arith
  two_cut false e h = omega arith

-- a sequence that is whole, and one that is cut short
pub needed-whole : (bs : List ℕ) → 2 ≤ length bs → get_or bs 0 0 ≡ 27 → (said bs ≡ 0 → ⊥) → said bs ≤ length bs → needed bs ≡ said bs
unfolding needed after_mode
needed-whole [] l e h w = absurd (omega arith)
needed-whole (b ∷ []) l e h w = absurd (omega arith)
needed-whole (b ∷ c ∷ []) l e h w = rw (eq-eqb b 27 e) (escape_order c [] ∙ two_whole c (length_of c 0) (eqb c 208) (length_listed c 0 h) w)
needed-whole (b ∷ c ∷ k ∷ bs) l e h w = rw (eq-eqb b 27 e) (escape_order c (k ∷ bs) ∙ length_listed c k h)

pub needed_cut : (bs : List ℕ) → 2 ≤ length bs → get_or bs 0 0 ≡ 27 → (said bs ≡ 0 → ⊥) → length bs < said bs → length bs < needed bs
unfolding needed after_mode
needed_cut [] l e h w = absurd (omega arith)
needed_cut (b ∷ []) l e h w = absurd (omega arith)
needed_cut (b ∷ c ∷ []) l e h w = rw (eq-eqb b 27 e) (subst (λ (n : ℕ). 2 < n) (sym (escape_order c [])) (two_cut c (length_of c 0) (eqb c 208) (length_listed c 0 h) w))
needed_cut (b ∷ c ∷ k ∷ bs) l e h w = rw (eq-eqb b 27 e) (subst (λ (n : ℕ). length (b ∷ c ∷ k ∷ bs) < n) (sym (escape_order c (k ∷ bs) ∙ length_listed c k h)) w)

-- the own bytes say the length as well
pub unlisted_own : (bs : List ℕ) → 2 ≤ length bs → get_or bs 0 0 ≡ 27 → said bs ≡ 0 → needed (take 2 bs) ≡ 2
unlisted_own bs l e h =
    let t : said (take 2 bs) ≡ 0 = rw (get_or-take 2 bs 1 0 (omega arith)) (third_free (get_or bs 1 0) (get_or bs 2 0) (get_or (take 2 bs) 2 0) (omega arith) ∙ h) in
    needed_unlisted (take 2 bs) (omega (arith, length-take-le 2 bs l)) (get_or-take 2 bs 0 0 (omega arith) ∙ e) t

said_own : (bs : List ℕ) → (said bs ≡ 0 → ⊥) → said (take (said bs) bs) ≡ said bs
said_own bs h =
    let n : 2 ≤ said bs = length-least (get_or bs 1 0) (get_or bs 2 0) h in
    rw (get_or-take (said bs) bs 1 0)
    (⊎_elim (λ (z : 2 ≡ said bs). third_free (get_or bs 1 0) (get_or bs 2 0) (get_or (take (said bs) bs) 2 0) (omega arith)) (λ (z : 2 < said bs). rw (get_or-take (said bs) bs 2 0)) (eq-or-lt_of_le n))

pub needed_own : (bs : List ℕ) → 2 ≤ length bs → get_or bs 0 0 ≡ 27 → (said bs ≡ 0 → ⊥) → said bs ≤ length bs → needed (take (said bs) bs) ≡ said bs
needed_own bs l e h w =
    let n : 2 ≤ said bs = length-least (get_or bs 1 0) (get_or bs 2 0) h in
    let own : length (take (said bs) bs) ≡ said bs = length-take-le (said bs) bs w in
    let s : said (take (said bs) bs) ≡ said bs = said_own bs h in
    needed-whole (take (said bs) bs) (omega arith) (get_or-take (said bs) bs 0 0 (omega arith) ∙ e) (λ z. h (sym s ∙ z)) (omega arith) ∙ s
