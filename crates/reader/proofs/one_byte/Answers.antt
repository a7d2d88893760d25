-- `reader::one_byte` meets its contract: by its test.
use mathlib.Core.Path.{◌≡◌, ap, sym}
use Prim.Native.Nat.{ℕ}
use mathlib.Core.Bool.{Bool, false, true}
use lib.Dec.{ltb}
use borrow.Author.Tests.{le-ltb, lt-ltb}
use Rattle.model.specs.declared.Item.{Item}
use Rattle.model.specs.declared.Item.TheVariants.{Control, Printed}
use Rattle.reader.specs.Reading.{by_itself}
use Rattle.reader.proofs.one_byte.Goals as goal

by_test : (b : ℕ) (t : Bool) → ltb b 32 ≡ t → by_itself b ≡ elim t as (λ _. Item) [ true ↦ Control b | false ↦ Printed b ]
by_test b t e = ap (λ (t : Bool). elim t as (λ _. Item) [ true ↦ Control b | false ↦ Printed b ]) e

pub returns-then-first-lt32 : goal.returns-then-first-lt32
returns-then-first-lt32 c =
    let b = c.args.first in sym (by_test b true (lt-ltb b 32 c.if-first-lt32.true))

pub returns-else-first-lt32 : goal.returns-else-first-lt32
returns-else-first-lt32 c =
    let b = c.args.first in sym (by_test b false (le-ltb b 32 c.if-first-lt32.false))
