-- What the arms of `idle` know of a sequence: those that name one ask the mode alone, and in the last its second byte is in no list.
use mathlib.Core.Path.{◌≡◌, refl}
use Prim.Native.Nat.{ℕ}
use mathlib.Core.Bool.{Bool, cond, false, not, true}
use mathlib.Core.List.{List, ◌∷◌, ◌++◌}
use lib.Dec.{eqb}
use denote.Enum.Declared.{tag_of}
use types.Run.{OneOf}
use Rattle.model.specs.declared.Sequence.{Sequence as Seq}
use Rattle.model.specs.Bytes.{list_from}
use Rattle.model.specs.Checks.{member}
use Rattle.model.specs.Sequences.{code_of, drawing, idle?, idle_there}
use Rattle.model.specs.contracts.Sequence.{the_type}
use Rattle.model.proofs.Cases.{none_passes}
use Rattle.model.proofs.Tests.{by_test}

-- a second byte of the one list, and of the other
pub there : (b : Bool) → b ≡ cond b true false
there b = by_test (λ x. x ≡ cond x true false) b refl refl

pub elsewhere : (mode : ℕ) → not (eqb mode 3) ≡ cond (eqb mode 3) false true
elsewhere mode = by_test (λ x. not x ≡ cond x false true) (eqb mode 3) refl refl

-- the cases of `Sequence`, by their positions, that are idle in no mode
abbrev awake : List ℕ
awake = list_from (λ n. n) 0 13 ++ (list_from (λ n. n) 17 8 ++ (list_from (λ n. n) 27 4 ++ (32 ∷ list_from (λ n. n) 38 9)))

pub never : (mode : ℕ) (q : Seq) → OneOf awake (tag_of the_type q) → idle? mode (code_of q) ≡ false
unfolding idle? member
never mode q o =
    by_test (λ b. cond b (member (code_of q) idle_there) (member (code_of q) drawing) ≡ false) (eqb mode 3) (none_passes (λ c. member c idle_there) awake q refl o) (none_passes (λ c. member c drawing) awake q refl o)
