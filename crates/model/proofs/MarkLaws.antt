-- P5, the marks of one screen: what sound ones are, line by line; the end of a logical line is the first unmarked line; and what the rules
-- make of sound marks is sound.
use mathlib.Core.Path.{◌∙◌, ◌≡◌, ap, refl, sym}
use Prim.Native.Nat.{◌*◌, ◌+◌, ◌-◌, ◌<◌, ◌≤◌, suc, zero, ℕ}
use native.Mathlib.Nat.{add-zero}
use native.Mathlib.Omega.{arith}
use native.Mathlib.Decide.{ℕ_discrete}
use mathlib.Core.Bool.{Bool, ◌&&◌, ◌||◌, cond, false, true}
use lib.ListN.{get_or, get_or-replicate, replicate}
use lib.Dec.{eqb, leb, ltb}
use lib.Pow.{pow_pos}
use borrow.Author.Tests.{eqb-false, eqb-true, leb-true, ltb-false, ltb-true}
use Rattle.model.specs.Marks.{Marked, end_of, end_unmarked, mark_in, marks_down, marks_up, numbered, running, running_on, unmarked_from}
use Rattle.model.proofs.Numbering.{mark_behind, number_marked}
use Rattle.model.proofs.Tests.{and_right, cond_at, differ}

-- the greatest mark of line l of so many lines, and marks that are 0 or 1, and 0 from the last line on
abbrev most_mark : ℕ → ℕ → ℕ
most_mark lines l = cond (ltb l lines) 1 0

abbrev pub Above : ℕ → (ℕ → ℕ) → Type 0
Above lines m = (l : ℕ) → 1 ≤ l → m l ≤ most_mark lines l

-- the greatest mark: of a line above the last, and of the others
most_one : (lines l x : ℕ) → l < lines → x ≤ 1 → x ≤ most_mark lines l
most_one lines l x h k = cond_at (λ (y : ℕ). x ≤ y) (ltb l lines) 1 0 (λ e. k) (λ e. absurd (omega (arith, ltb-false l lines e)))

most_zero : (lines l : ℕ) → 0 ≤ most_mark lines l
most_zero lines l = omega arith

one_most : (lines l x : ℕ) → x ≤ most_mark lines l → x ≤ 1
one_most lines l x = cond_at (λ (y : ℕ). x ≤ y → x ≤ 1) (ltb l lines) 1 0 (λ e h. h) (λ e h. omega arith)

-- none from the last line on
pub last_unmarked : (lines l x : ℕ) → lines ≤ l → x ≤ most_mark lines l → x ≡ 0
last_unmarked lines l x h = cond_at (λ (y : ℕ). x ≤ y → x ≡ 0) (ltb l lines) 1 0 (λ e. absurd (omega (arith, ltb-true l lines e))) (λ e k. omega arith)

-- so are those of a sound number, and a number of such marks is sound
pub marked_above : (lines n : ℕ) → Marked lines n → Above lines (mark_in n)
marked_above lines n h l p = cond_at (λ (y : ℕ). mark_in n l ≤ y) (ltb l lines) 1 0 (λ e. omega arith) (λ e. omega (arith, mark_behind n lines l h p (ltb-false l lines e)))

pub above_bits : (lines : ℕ) (m : ℕ → ℕ) → Above lines m → (l : ℕ) → 1 ≤ l → m l < 2
above_bits lines m s l p = omega (arith, one_most lines l (m l) (s l p))

pub above_marked : (lines n : ℕ) (m : ℕ → ℕ) → Above lines m → Marked lines (numbered m 1 n)
above_marked lines n m s = number_marked m n lines (above_bits lines m s) (λ l p q. last_unmarked lines l (m l) q (s l p))

-- no mark at all
pub none_marked : (lines k : ℕ) → k < 2 → Marked lines (get_or (replicate 2 0) k 0)
none_marked lines k h = rw (get_or-replicate {A = ℕ} 2 k 0 0 h) (pow_pos (lines - 1))

-- "the first unmarked line at or after": at most n lines on; every line before it is marked; it is not
pub running_most : (m : ℕ → ℕ) (l n : ℕ) → running m l n ≤ n
unfolding running
running_most m l zero = omega arith
running_most m l (suc n) = cond_at (λ (x : ℕ). x ≤ suc n) (eqb (m l) 0) 0 _ (λ e. omega arith) (λ e. omega (arith, running_most m (suc l) n))

running_marked : (m : ℕ → ℕ) (l n i : ℕ) → l ≤ i → i < l + running m l n → m i ≡ 0 → ⊥
unfolding running
running_marked m l zero i p = λ q z. omega arith
running_marked m l (suc n) i p = cond_at (λ (x : ℕ). i < l + x → m i ≡ 0 → ⊥) (eqb (m l) 0) 0 (suc (running m (suc l) n)) (λ e q z. omega arith) (λ e q z. go (running_marked m (suc l) n i) e q z (ℕ_discrete i l))
  where
    go : (suc l ≤ i → i < suc l + running m (suc l) n → m i ≡ 0 → ⊥) → eqb (m l) 0 ≡ false → i < l + suc (running m (suc l) n) → m i ≡ 0 → Dec (i ≡ l) → ⊥
    go f e q z (yes d) = eqb-false (m l) 0 e (ap m (sym d) ∙ z)
    go f e q z (no d) = f (omega arith) (omega arith) z

running_ends : (m : ℕ → ℕ) (l n : ℕ) → running m l n < n → m (l + running m l n) ≡ 0
unfolding running
running_ends m l zero = λ h. absurd (omega arith)
running_ends m l (suc n) = cond_at (λ (x : ℕ). x < suc n → m (l + x) ≡ 0) (eqb (m l) 0) 0 (suc (running m (suc l) n))
    (λ e h. rw add-zero (eqb-true (m l) 0 e))
    (λ e h. let z : l + suc (running m (suc l) n) ≡ suc l + running m (suc l) n = omega arith in ap m z ∙ running_ends m (suc l) n (omega arith))

module _ (m : ℕ → ℕ) (lines l : ℕ) (low : 1 ≤ l) (high : l ≤ lines) where
  pub end_low : l ≤ end_of m lines l
  unfolding end_of
  end_low = omega arith

  pub end_high : end_of m lines l ≤ lines
  unfolding end_of
  end_high = omega (arith, running_most m l (lines - l))

  -- every line before it, from line l on, is marked
  pub end_after : (i : ℕ) → l ≤ i → i < end_of m lines l → m i ≡ 0 → ⊥
  unfolding end_of
  end_after i p q = running_marked m l (lines - l) i p q

  -- and it is not
  pub end_unmarked_lem : Above lines m → m (end_of m lines l) ≡ 0
  unfolding end_of
  end_unmarked_lem s = go (ℕ_discrete (running m l (lines - l)) (lines - l))
    where
      go : Dec (running m l (lines - l) ≡ lines - l) → m (l + running m l (lines - l)) ≡ 0
      go (yes e) = let z : l + running m l (lines - l) ≡ lines = omega arith in ap m z ∙ last_unmarked lines lines (m lines) (omega arith) (s lines (omega arith))
      go (no d) = running_ends m l (lines - l) (omega (arith, running_most m l (lines - l)))

  -- an unmarked line is its own end: 84 as document 01 had it
  pub end_own : m l ≡ 0 → end_of m lines l ≡ l
  unfolding end_of running
  end_own z = go (lines - l)
    where
      go : (n : ℕ) → l + running m l n ≡ l
      go zero = add-zero l
      go (suc n) = cond_at (λ (x : ℕ). l + x ≡ l) (eqb (m l) 0) 0 (suc (running m (suc l) n)) (λ e. add-zero l) (λ e. absurd (eqb-false (m l) 0 e z))

-- what the rules make of sound marks is sound
module _ (lines : ℕ) (m : ℕ → ℕ) (s : Above lines m) where
  pub sound_running : (line : ℕ) → line < lines → Above lines (running_on line m)
  unfolding running_on
  sound_running line h l p = cond_at (λ (x : ℕ). x ≤ most_mark lines l) (eqb l line) 1 (m l) (λ e. most_one lines l 1 (omega (arith, eqb-true l line e)) (omega arith)) (λ e. s l p)

  pub sound_unmarked : (from to : ℕ) → Above lines (unmarked_from from to m)
  unfolding unmarked_from
  sound_unmarked from to l p = cond_at (λ (x : ℕ). x ≤ most_mark lines l) (leb from l && leb l to) 0 (m l) (λ e. most_zero lines l) (λ e. s l p)

  pub sound_up : (a n : ℕ) → a + n ≤ lines → Above lines (marks_up a n m)
  unfolding marks_up
  sound_up a n h l p =
      cond_at (λ (x : ℕ). x ≤ most_mark lines l) (ltb a l && leb l (a + n)) _ (m l)
      (λ e. cond_at (λ (x : ℕ). x ≤ most_mark lines l) (ltb l (a + n)) (m (l + 1)) 0
      (λ f. let z : l < a + n = ltb-true l (a + n) f in most_one lines l _ (omega arith) (one_most lines (l + 1) _ (s (l + 1) (omega arith))))
      (λ f. most_zero lines l))
      (λ e. s l p)

  -- all but the last line of the region
  down_but_last : (a n : ℕ) → a + n ≤ lines → (l : ℕ) → 1 ≤ l → (l ≡ a + n → ⊥) → marks_down a n m l ≤ most_mark lines l
  unfolding marks_down
  down_but_last a n h l p d =
      cond_at (λ (x : ℕ). x ≤ most_mark lines l) (ltb a l && leb l (a + n)) _ (m l)
      (λ e. let z : l ≤ a + n = leb-true l (a + n) (and_right (ltb a l) _ e) in
      cond_at (λ (x : ℕ). x ≤ most_mark lines l) (ltb (a + 1) l) (m (l - 1)) 0
      (λ f. let y : a + 1 < l = ltb-true (a + 1) l f in most_one lines l _ (omega arith) (one_most lines (l - 1) _ (s (l - 1) (omega arith))))
      (λ f. most_zero lines l))
      (λ e. s l p)

-- marks that are sound but in the region's last line are sound once that line is unmarked
sound_ends : (lines a n : ℕ) (m : ℕ → ℕ) → ((l : ℕ) → 1 ≤ l → (l ≡ a + n → ⊥) → m l ≤ most_mark lines l) → Above lines (end_unmarked a n m)
unfolding end_unmarked
sound_ends lines a n m s l p =
    cond_at (λ (x : ℕ). x ≤ most_mark lines l) (eqb l a || eqb l (a + n - 1) || eqb l (a + n)) 0 (m l) (λ e. most_zero lines l)
    (λ e. s l p (eqb-false l (a + n) (or_last (eqb l a) (eqb l (a + n - 1)) (eqb l (a + n)) e)))
  where
    or_last : (x y z : Bool) → (x || y || z) ≡ false → z ≡ false
    or_last true y z e = absurd (differ e)
    or_last false true z e = absurd (differ e)
    or_last false false z e = e

module _ (lines : ℕ) (m : ℕ → ℕ) (s : Above lines m) (a n : ℕ) (h : a + n ≤ lines) where
  pub sound_ends_up : Above lines (λ l. end_unmarked a n (marks_up a n m) l)
  sound_ends_up = sound_ends lines a n (marks_up a n m) (λ l p d. sound_up lines m s a n h l p)

  pub sound_ends_down : Above lines (λ l. end_unmarked a n (marks_down a n m) l)
  sound_ends_down = sound_ends lines a n (marks_down a n m) (down_but_last lines m s a n h)
