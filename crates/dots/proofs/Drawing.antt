-- A line, dot by dot.
use mathlib.Core.Path.{◌∙◌, ◌≡◌, ap, refl, sym}
use Prim.Native.Nat.{◌*◌, ◌+◌, ◌<◌, ◌≤◌, suc, zero, ℕ}
use native.Mathlib.Numerals.{add-one}
use native.Mathlib.Omega.{arith}
use mathlib.Core.List.{List}
use lib.ListN.{length}
use lib.Dec.{eqb}
use borrow.Author.Tests.{eq-eqb, eqb-false, eqb-true, ne_eqb}
use Rattle.model.specs.declared.Point.{Point}
use Rattle.model.specs.Dot.{OnScreen, acted, byte_of, dot_at, wanted}
use Rattle.model.specs.Strokes.{drawn, line_dot, lined, longer, mask_bit, stepped}
use Rattle.model.proofs.Tests.{cond_at}
use Rattle.model.proofs.DotLaws.{length_drawn}
use Rattle.dots.proofs.Outcomes.{by_outcome}
use Rattle.dots.proofs.Dots.{acted_here, acted_there}
use Rattle.dots.proofs.Places.{line_once, line_seen}

-- the two ways of `step`
module _ (f mask k v h : ℕ) (dots : List ℕ) {bit : ℕ} (e : bit ≡ mask_bit mask k) where
  pub stepped_on : {l : List ℕ} → bit ≡ 1 → l ≡ acted f v h dots → l ≡ stepped f mask k v h dots
  unfolding stepped
  stepped_on one g = rw (eq-eqb (mask_bit mask k) 1 (sym e ∙ one)) g

  pub stepped_off : (bit ≡ 1 → ⊥) → dots ≡ stepped f mask k v h dots
  unfolding stepped
  stepped_off none = rw (ne_eqb (mask_bit mask k) 1 (λ h. none (e ∙ h))) refl

-- one dot more: what `step` promises of every row
pub drawn_more : (f mask : ℕ) (from to : Point) (dots : List ℕ) (k : ℕ) {row h : ℕ} {l l' : List ℕ} → l ≡ drawn f mask from to dots k → (row ≡ 60 * (line_dot from to k).v) × (h ≡ (line_dot from to k).h)
    → ((v : ℕ) → row ≡ 60 * v → l' ≡ stepped f mask k v h l) → l' ≡ drawn f mask from to dots (k + 1)
unfolding drawn
drawn_more f mask from to dots k e at step = step (line_dot from to k).v at.0 ∙ rw (at.1, e, add-one)

pub drawn_none : (f mask : ℕ) (from to : Point) (dots : List ℕ) → dots ≡ drawn f mask from to dots 0
unfolding drawn
drawn_none f mask from to dots = refl

pub drawn_all : (f mask : ℕ) (from to : Point) (dots : List ℕ) (n : ℕ) → n ≡ longer from to → drawn f mask from to dots (n + 1) ≡ lined f mask from to dots
unfolding lined
drawn_all f mask from to dots n e = rw e

-- dot by dot
module _ (f mask : ℕ) (from to : Point) (a : OnScreen from) (b : OnScreen to) (dots : List ℕ) (size : length dots ≡ 3840) where
  abbrev after : ℕ → List ℕ
  after n = drawn f mask from to dots n

  -- none of the first n dots that the mask lets act lies at (v, h)
  abbrev pub Missed : ℕ → ℕ → ℕ → Type 0
  Missed n v h = (k : ℕ) → k < n → mask_bit mask k ≡ 1 → (line_dot from to k).v ≡ v → (line_dot from to k).h ≡ h → ⊥

  there : (n : ℕ) → n < longer from to + 1 → byte_of (line_dot from to n).v (line_dot from to n).h < length (after n)
  there n l = let p = line_seen from to a b n (omega arith) in omega (arith, size, length_drawn f mask from to dots n)

  drawn_off : (n v h : ℕ) → n ≤ longer from to + 1 → h < 480 → Missed n v h → dot_at v h (after n) ≡ dot_at v h dots
  unfolding drawn stepped
  drawn_off zero v h l c miss = refl
  drawn_off (suc n) v h l c miss =
      let p = line_dot from to n in
      let before = drawn_off n v h (omega arith) c (λ k m. miss k (omega arith)) in
      cond_at (λ l. dot_at v h l ≡ dot_at v h dots) (eqb (mask_bit mask n) 1) (acted f p.v p.h (after n)) (after n)
      (λ t. acted_there f p.v p.h (after n) v h (line_seen from to a b n (omega arith)).horizontal c (there n (omega arith)) (miss n (omega arith) (eqb-true (mask_bit mask n) 1 t)) ∙ before)
      (λ t. before)

  drawn_on : (n k : ℕ) → n ≤ longer from to + 1 → k < n → mask_bit mask k ≡ 1 → dot_at (line_dot from to k).v (line_dot from to k).h (after n) ≡ wanted f (dot_at (line_dot from to k).v (line_dot from to k).h dots)
  unfolding drawn stepped
  drawn_on zero k l m on = absurd (omega arith)
  drawn_on (suc n) k l m on =
      let p = line_dot from to n in
      let q = line_dot from to k in
      let want = wanted f (dot_at q.v q.h dots) in
      by_outcome (λ t. dot_at q.v q.h (after (suc n)) ≡ want) (eqb k n)
      (λ t.
      let e = eqb-true k n t in
      let off = drawn_off n q.v q.h (omega arith) (line_seen from to a b k (omega arith)).horizontal (λ j i o x y. omega (arith, line_once from to j k (omega arith) (omega arith) x y)) in
      let here = acted_here f q.v q.h (after k) (there k (omega arith)) in
      rw (← e, eq-eqb (mask_bit mask k) 1 on) (here ∙ ap (wanted f) (rw (← e) at off)))
      (λ t.
      let ne = eqb-false k n t in
      let before = drawn_on n k (omega arith) (omega arith) on in
      cond_at (λ l. dot_at q.v q.h l ≡ want) (eqb (mask_bit mask n) 1) (acted f p.v p.h (after n)) (after n)
      (λ u. acted_there f p.v p.h (after n) q.v q.h (line_seen from to a b n (omega arith)).horizontal (line_seen from to a b k (omega arith)).horizontal (there n (omega arith)) (λ x y. ne (sym (line_once from to n k (omega arith) (omega arith) x y))) ∙ before)
      (λ u. before))

  -- a dot of the line that the mask lets act becomes what the function wants: once, so function 3 turns it over
  pub lined_on : (k : ℕ) → k ≤ longer from to → mask_bit mask k ≡ 1
      → dot_at (line_dot from to k).v (line_dot from to k).h (lined f mask from to dots) ≡ wanted f (dot_at (line_dot from to k).v (line_dot from to k).h dots)
  unfolding lined
  lined_on k l on = drawn_on (longer from to + 1) k (omega arith) (omega arith) on

  -- every other dot stays
  pub lined_off : (v h : ℕ) → h < 480 → Missed (longer from to + 1) v h → dot_at v h (lined f mask from to dots) ≡ dot_at v h dots
  unfolding lined
  lined_off v h c miss = drawn_off (longer from to + 1) v h (omega arith) c miss
