-- The item in front, from what `whole_item` looks at: its first byte, and of a sequence its second and third.
use mathlib.Core.Path.{◌∙◌, ◌≡◌, ap, sym}
use Prim.Native.Nat.{ℕ, ◌<◌, ◌≤◌}
use native.Mathlib.Omega.{arith}
use mathlib.Core.Bool.{Bool, cond}
use mathlib.Core.List.{List}
use lib.ListN.{get_or, length}
use borrow.Author.Tests.{le-ltb, lt-ltb}
use Rattle.model.specs.Reading.{needed, unfinished?}
use Rattle.model.proofs.Gathering.{needed-least}
use Rattle.tables.specs.Lengths.{length_of}
use Rattle.decoding.proofs.Needed.{needed_alone, needed_cut, needed-plain, needed_unlisted, needed-whole}
use Rattle.unfinished.specs.Whole.{whole_item}

module _ (bs : List ℕ) where
  unfinished_is : length bs < needed bs → whole_item bs ≡ 0
  unfolding whole_item unfinished?
  unfinished_is l = ap (λ (t : Bool). cond t 0 (needed bs)) (lt-ltb (length bs) (needed bs) l)

  -- it is whole and has n bytes
  abbrev pub Front : ℕ → Type 0
  Front n = (n ≡ whole_item bs) × ((1 ≤ n) × (n ≤ length bs))

  finished_is : (n : ℕ) → needed bs ≡ n → n ≤ length bs → Front n
  unfolding whole_item unfinished?
  finished_is n e l =
      (sym (ap (λ (t : Bool). cond t 0 (needed bs)) (le-ltb (length bs) (needed bs) (omega arith)) ∙ e), (omega (arith, needed-least bs), l))

  -- no byte at all
  pub nothing : length bs < 1 → whole_item bs ≡ 0
  nothing h = unfinished_is (omega (arith, needed-least bs))

  -- a printed byte or a code
  pub plain : 1 ≤ length bs → (get_or bs 0 0 ≡ 27 → ⊥) → Front 1
  plain h e = finished_is 1 (needed-plain bs h e) h

  module _ (e : get_or bs 0 0 ≡ 27) where
    -- ESC at the very end
    pub alone : length bs < 2 → whole_item bs ≡ 0
    alone h = unfinished_is (needed_alone bs h e)

    module _ (more : 2 ≤ length bs) {n : ℕ} (s : n ≡ length_of (get_or bs 1 0) (get_or bs 2 0)) where
      -- a byte that is not in the list
      pub unlisted : n ≡ 0 → Front 2
      unlisted z = finished_is 2 (needed_unlisted bs more e (sym s ∙ z)) more

      -- cut short, and whole
      pub cut : (n ≡ 0 → ⊥) → length bs < n → whole_item bs ≡ 0
      cut z h = unfinished_is (needed_cut bs more e (λ y. z (s ∙ y)) (omega (arith, s)))

      pub listed : (n ≡ 0 → ⊥) → n ≤ length bs → Front n
      listed z h = finished_is n (needed-whole bs more e (λ y. z (s ∙ y)) (omega (arith, s)) ∙ sym s) h
