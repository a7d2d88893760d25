-- Counting an item among the counts is counting it in the answer they make; what it adds to the printer bytes, and at most to the sequences, by its cases.
use mathlib.Core.Path.{◌≡◌, refl}
use Prim.Native.Nat.{◌+◌, ◌≤◌, ℕ}
use native.Mathlib.Omega.{arith}
use Rattle.model.specs.declared.Item.{Item}
use Rattle.model.specs.declared.Item.TheVariants.{Control, Printed, Refused, Sequence}
use Rattle.model.specs.Items.{counted, printer_bytes}
use Rattle.counting.specs.declared.Counts.{Counts}
use Rattle.counting.specs.Counting.{answer_at, counts_with}

module _ (mode : ℕ) where
  pub counted_at : (i : Item) (n at : ℕ) (c : Counts) → counted i at (printer_bytes mode i) (answer_at n c) ≡ answer_at n (counts_with mode i at c)
  counted_at (Printed b) n at c = refl
  counted_at (Control b) n at c = refl
  counted_at (Sequence q) n at c = refl
  counted_at (Refused k p) n at c = refl

  pub printed_with : (i : Item) (at : ℕ) (c : Counts) → (counts_with mode i at c).printed ≡ c.printed + printer_bytes mode i
  printed_with (Printed b) at c = omega arith
  printed_with (Control b) at c = omega arith
  printed_with (Sequence q) at c = refl
  printed_with (Refused k p) at c = omega arith

  pub counts_few : (i : Item) (at : ℕ) (c : Counts) → (counts_with mode i at c).accepted + (counts_with mode i at c).refused ≤ c.accepted + c.refused + 1
  counts_few (Printed b) at c = omega arith
  counts_few (Control b) at c = omega arith
  counts_few (Sequence q) at c = omega arith
  counts_few (Refused k p) at c = omega arith
