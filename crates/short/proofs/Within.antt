-- The tests by which a message is one run within the cursor's line.
use mathlib.Core.Path.{◌∙◌, ◌≡◌, ap, refl, sym}
use Prim.Native.Nat.{◌-◌, ◌≤◌, ℕ}
use mathlib.Core.Bool.{Bool, ◌||◌, false, true}
use lib.Dec.{leb, ltb}
use borrow.Author.Tests.{le-leb, ltb-false}
use Rattle.model.specs.declared.Item.{Item}
use Rattle.model.specs.declared.Item.TheVariants.{Control, Printed}
use Rattle.model.proofs.Tests.{differ, or_false}
use Rattle.reader.specs.Reading.{by_itself}
use Rattle.obeying.specs.Obeying.{printed?}

-- at least one byte, and no more than the line has room for
pub fitting : (count columns column : ℕ) → (ltb count 1 || ltb (columns - column) count) ≡ false → (1 ≤ count) × (count ≤ columns - column)
fitting count columns column e = let t = or_false (ltb count 1) (ltb (columns - column) count) e in (ltb-false count 1 t.0, ltb-false (columns - column) count t.1)

-- a byte that is an item by itself, and printed, prints
pub first_prints : (b : ℕ) {i : Item} → i ≡ by_itself b → printed? i ≡ true → leb 32 b ≡ true
first_prints b {i} e h = go (ltb b 32) refl
  where
    go : (t : Bool) → ltb b 32 ≡ t → leb 32 b ≡ true
    go true k = absurd (differ (sym h ∙ ap printed? e ∙ ap (λ (t : Bool). printed? (elim t as (λ _. Item) [ true ↦ Control b | false ↦ Printed b ])) k))
    go false k = le-leb 32 b (ltb-false b 32 k)
