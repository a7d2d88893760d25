-- `tables::charset` meets its contract: D to G stand side by side, the others are keys.
use mathlib.Core.Path.{refl, sym}
use Prim.Native.Nat.{ℕ}
use native.Mathlib.Omega.{arith}
use mathlib.Core.Bool.{not}
use mathlib.Core.List.{List, [], ◌∷◌}
use borrow.Author.Tests.{not-true}
use Rattle.model.specs.Checks.{member}
use Rattle.model.specs.Sound.{charsets}
use Rattle.model.proofs.Arms.{beside, one_of}
use Rattle.tables.proofs.charset.Goals as goal

abbrev keys : List ℕ
keys = 73 ∷ 78 ∷ 83 ∷ 85 ∷ 87 ∷ []

pub returns-in_default : goal.returns-in_default
unfolding member
returns-in_default c =
    sym (not-true _ (beside (λ n. not (member n charsets)) (keys ∷ []) 0 68 _ refl c.in_default.in_default-own.rest (omega arith)))

pub returns-in_default-2 : goal.returns-in_default-2
unfolding member
returns-in_default-2 c =
    sym (not-true _ (beside (λ n. not (member n charsets)) (keys ∷ []) 72 184 _ refl c.in_default.in_default-own.rest (omega arith)))

pub returns-in-85 : goal.returns-in-85
unfolding member
returns-in-85 c =
    sym (one_of (λ n. member n charsets) keys _ refl c.in-85.is)

pub returns-in-85-2 : goal.returns-in-85-2
unfolding member
returns-in-85-2 c =
    sym (beside (λ n. member n charsets) (keys ∷ []) 68 4 _ refl c.in-85.in_default-own.rest (omega arith))
