-- P11: a dot and a line keep the store's size; what 80 appends is the store.
use mathlib.Core.Path.{◌∙◌, ◌≡◌, ap, refl, sym}
use Prim.Native.Nat.{◌+◌, suc, zero, ℕ}
use native.Mathlib.Nat.{zero-add}
use native.Mathlib.Omega.{arith}
use mathlib.Core.List.{List}
use lib.ListN.{get_or, length, length-set}
use lib.Seq.{ext_get_or}
use lib.Dec.{eqb}
use Rattle.model.specs.declared.Point.{Point}
use Rattle.model.specs.Bytes.{list_from}
use Rattle.model.specs.State.{State}
use Rattle.model.specs.Picture.{dot_copy}
use Rattle.model.specs.Dot.{acted, with_dot}
use Rattle.model.specs.Strokes.{drawn, lined, longer, mask_bit, stepped}
use Rattle.model.proofs.Tests.{cond_at}
use Rattle.model.proofs.ByteLaws.{get_or_list_from, length_list_from}

pub length-with_dot : (on v h : ℕ) (dots : List ℕ) → length (with_dot on v h dots) ≡ length dots
unfolding with_dot
length-with_dot on v h dots = length-set dots _ _

length-stepped : (function mask k v h : ℕ) (dots : List ℕ) → length (stepped function mask k v h dots) ≡ length dots
unfolding stepped acted
length-stepped function mask k v h dots = cond_at (λ (xs : List ℕ). length xs ≡ length dots) (eqb (mask_bit mask k) 1) (acted function v h dots) dots (λ e. length-with_dot _ v h dots) (λ e. refl)

pub length_drawn : (function mask : ℕ) (from to : Point) (dots : List ℕ) (n : ℕ) → length (drawn function mask from to dots n) ≡ length dots
unfolding drawn
length_drawn function mask from to dots zero = refl
length_drawn function mask from to dots (suc n) = length-stepped function mask n _ _ (drawn function mask from to dots n) ∙ length_drawn function mask from to dots n

pub length-lined : (function mask : ℕ) (from to : Point) (dots : List ℕ) → length (lined function mask from to dots) ≡ length dots
unfolding lined
length-lined function mask from to dots = length_drawn function mask from to dots (longer from to + 1)

-- 80 in mode 3 appends the store as it is
each_dot : (xs : List ℕ) (n : ℕ) → length xs ≡ n → list_from (λ p. get_or xs p 0) 0 n ≡ xs
each_dot xs n e = ext_get_or 0 _ _ (length_list_from (λ p. get_or xs p 0) 0 n ∙ sym e)
    (λ i h. get_or_list_from (λ p. get_or xs p 0) n 0 i (omega (arith, h, length_list_from (λ p. get_or xs p 0) 0 n)) ∙ ap (λ (k : ℕ). get_or xs k 0) (zero-add i))

pub dots_copied : (st : State) → length st.dots ≡ 3840 → dot_copy st ≡ st.dots
unfolding dot_copy
dots_copied st e = each_dot st.dots 3840 e
