-- `spelling::from_198` meets its contract: arm by arm as `spell`; in the last, the second byte is 211 or more.
use mathlib.Core.Path.{refl}
use mathlib.Core.List.{[], ◌∷◌}
use Rattle.model.proofs.Cases.{none_passes}
use Rattle.spelling.specs.Spelling.{bytes_of, params_of}
use Rattle.spelling.proofs.Parts.{above, between}
use borrow.Enum.Refused.{opened}
use Rattle.spelling.proofs.from_198.Goals as goal

pub returns-in-DrawLine : goal.returns-in-DrawLine
unfolding bytes_of params_of
returns-in-DrawLine c =
    rw c.in-DrawLine.is c.of.ensures

pub returns-in-DrawDot : goal.returns-in-DrawDot
unfolding bytes_of params_of
returns-in-DrawDot c =
    rw c.in-DrawDot.is c.of-in-DrawDot.ensures

pub returns-in-Mode0 : goal.returns-in-Mode0
unfolding bytes_of params_of
returns-in-Mode0 c =
    rw c.in-Mode0.is c.of-in-Mode0.ensures

pub returns-in-Mode1 : goal.returns-in-Mode1
unfolding bytes_of params_of
returns-in-Mode1 c =
    rw c.in-Mode1.is c.of-in-Mode1.ensures

pub returns-in-Mode2 : goal.returns-in-Mode2
unfolding bytes_of params_of
returns-in-Mode2 c =
    rw c.in-Mode2.is c.of-in-Mode2.ensures

pub returns-in-Mode3 : goal.returns-in-Mode3
unfolding bytes_of params_of
returns-in-Mode3 c =
    rw c.in-Mode3.is c.of-in-Mode3.ensures

pub returns-in-Select : goal.returns-in-Select
unfolding bytes_of params_of
returns-in-Select c =
    rw c.in-Select.is c.of-in-Select.ensures

pub returns-in-Cover : goal.returns-in-Cover
unfolding bytes_of params_of
returns-in-Cover c =
    rw c.in-Cover.is c.of-in-Cover.ensures

pub from_211-requires : goal.from_211-requires
from_211-requires c =
    above _ c.requires (none_passes (between 198 211) (0 ∷ 1 ∷ 2 ∷ 3 ∷ 4 ∷ 5 ∷ 6 ∷ 7 ∷ 8 ∷ 9 ∷ 10 ∷ 11 ∷ 12 ∷ 13 ∷ 14 ∷ 15 ∷ 16 ∷ 17 ∷ 18 ∷ 19 ∷ 20 ∷ 21 ∷ 22 ∷ 23 ∷ 24 ∷ 33 ∷ 34 ∷ 35 ∷ 36 ∷ 37 ∷ 38 ∷ 39 ∷ 40 ∷ 41 ∷ 42 ∷ 43 ∷ 44 ∷ 45 ∷ 46 ∷ []) c.args.sequence refl (opened c.in_default.in_default-own.keys9))
