-- What the last arms know of a sequence: in `obey` it changes no store, in `is_pattern` and `store_pattern` it is not 224. And 211 is not in mode 3.
use mathlib.Core.Path.{◌∙◌, ◌≡◌, ap, refl, sym}
use Prim.Native.Nat.{ℕ}
use mathlib.Core.Bool.{false}
use mathlib.Core.List.{List, [], ◌∷◌, ◌++◌}
use lib.Dec.{eqb}
use denote.Enum.Declared.{tag_of}
use types.Run.{OneOf}
use Rattle.model.specs.declared.Sequence.{Sequence as Seq}
use Rattle.model.specs.Bytes.{list_from}
use Rattle.model.specs.Checks.{member}
use Rattle.model.specs.Sequences.{code_of, idle?}
use Rattle.model.specs.contracts.Sequence.{the_type}
use Rattle.model.proofs.Tests.{differ}
use Rattle.model.proofs.Cases.{none_passes}
use Rattle.values.specs.Setting.{more}

-- those that `obey` leaves to its own
abbrev only_set : List ℕ
only_set = list_from (λ n. n) 0 25 ++ list_from (λ n. n) 34 13

-- those that `is_pattern` and `store_pattern` leave to theirs: all but 224
abbrev not_224 : List ℕ
not_224 = list_from (λ n. n) 0 38 ++ list_from (λ n. n) 39 8

-- what `obey` leaves to `set` changes no store
pub storeless : (q : Seq) → OneOf only_set (tag_of the_type q) → eqb (code_of q) 224 ≡ false → member (code_of q) more ≡ false
unfolding member
storeless q z e = rw e (none_passes (λ c. member c (208 ∷ 209 ∷ 210 ∷ 211 ∷ 198 ∷ 199 ∷ [])) only_set q refl z)

-- what `is_pattern` and `store_pattern` leave to their last arms is not 224
pub no_pattern : (q : Seq) → OneOf not_224 (tag_of the_type q) → eqb (code_of q) 224 ≡ false
no_pattern q = none_passes (λ c. eqb c 224) not_224 q refl

-- 211 is idle in mode 3
pub two_screens : (mode : ℕ) → idle? mode 211 ≡ false → mode ≡ 3 → ⊥
unfolding idle? member
two_screens mode h e = differ (ap (λ (x : ℕ). idle? x 211) (sym e) ∙ h)
