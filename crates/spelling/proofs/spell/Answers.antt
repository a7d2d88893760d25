-- `spelling::spell` meets its contract: in the arm of a sequence, by what the array's bytes are; in the last, the second byte is 198 or more.
use mathlib.Core.Path.{refl}
use mathlib.Core.Bool.{not}
use mathlib.Core.List.{[], ◌∷◌}
use lib.Dec.{leb}
use borrow.Author.Tests.{leb-true, not-false}
use Rattle.model.proofs.Cases.{none_passes}
use Rattle.spelling.specs.Spelling.{bytes_of, params_of}
use Rattle.spelling.proofs.spell.Goals as goal

pub returns-in-PrintCode : goal.returns-in-PrintCode
unfolding bytes_of params_of
returns-in-PrintCode c =
    rw c.in-PrintCode.is c.of.ensures

pub returns-in-Clear : goal.returns-in-Clear
unfolding bytes_of params_of
returns-in-Clear c =
    rw c.in-Clear.is c.of-in-Clear.ensures

pub returns-in-CursorOff : goal.returns-in-CursorOff
unfolding bytes_of params_of
returns-in-CursorOff c =
    rw c.in-CursorOff.is c.of-in-CursorOff.ensures

pub returns-in-CursorOn : goal.returns-in-CursorOn
unfolding bytes_of params_of
returns-in-CursorOn c =
    rw c.in-CursorOn.is c.of-in-CursorOn.ensures

pub returns-in-Put : goal.returns-in-Put
unfolding bytes_of params_of
returns-in-Put c =
    rw c.in-Put.is c.of-in-Put.ensures

pub returns-in-Charset : goal.returns-in-Charset
unfolding bytes_of params_of
returns-in-Charset c =
    rw c.in-Charset.is c.of-in-Charset.ensures

pub returns-in-Copy : goal.returns-in-Copy
unfolding bytes_of params_of
returns-in-Copy c =
    rw c.in-Copy.is c.of-in-Copy.ensures

pub returns-in-EraseLine : goal.returns-in-EraseLine
unfolding bytes_of params_of
returns-in-EraseLine c =
    rw c.in-EraseLine.is c.of-in-EraseLine.ensures

pub returns-in-EraseRest : goal.returns-in-EraseRest
unfolding bytes_of params_of
returns-in-EraseRest c =
    rw c.in-EraseRest.is c.of-in-EraseRest.ensures

pub returns-in-SecretOn : goal.returns-in-SecretOn
unfolding bytes_of params_of
returns-in-SecretOn c =
    rw c.in-SecretOn.is c.of-in-SecretOn.ensures

pub returns-in-SecretOff : goal.returns-in-SecretOff
unfolding bytes_of params_of
returns-in-SecretOff c =
    rw c.in-SecretOff.is c.of-in-SecretOff.ensures

pub returns-in-LinesUp : goal.returns-in-LinesUp
unfolding bytes_of params_of
returns-in-LinesUp c =
    rw c.in-LinesUp.is c.of-in-LinesUp.ensures

pub returns-in-LinesDown : goal.returns-in-LinesDown
unfolding bytes_of params_of
returns-in-LinesDown c =
    rw c.in-LinesDown.is c.of-in-LinesDown.ensures

pub returns-in-Step : goal.returns-in-Step
unfolding bytes_of params_of
returns-in-Step c =
    rw c.in-Step.is c.of-in-Step.ensures

pub returns-in-Tracking : goal.returns-in-Tracking
unfolding bytes_of params_of
returns-in-Tracking c =
    rw c.in-Tracking.is c.of-in-Tracking.ensures

pub returns-in-WindowUp : goal.returns-in-WindowUp
unfolding bytes_of params_of
returns-in-WindowUp c =
    rw c.in-WindowUp.is c.of-in-WindowUp.ensures

pub returns-in-WindowDown : goal.returns-in-WindowDown
unfolding bytes_of params_of
returns-in-WindowDown c =
    rw c.in-WindowDown.is c.of-in-WindowDown.ensures

pub returns-in-InsOn : goal.returns-in-InsOn
unfolding bytes_of params_of
returns-in-InsOn c =
    rw c.in-InsOn.is c.of-in-InsOn.ensures

pub returns-in-InsOff : goal.returns-in-InsOff
unfolding bytes_of params_of
returns-in-InsOff c =
    rw c.in-InsOff.is c.of-in-InsOff.ensures

pub returns-in-CapsOn : goal.returns-in-CapsOn
unfolding bytes_of params_of
returns-in-CapsOn c =
    rw c.in-CapsOn.is c.of-in-CapsOn.ensures

pub returns-in-CapsOff : goal.returns-in-CapsOff
unfolding bytes_of params_of
returns-in-CapsOff c =
    rw c.in-CapsOff.is c.of-in-CapsOff.ensures

pub returns-in-NumOn : goal.returns-in-NumOn
unfolding bytes_of params_of
returns-in-NumOn c =
    rw c.in-NumOn.is c.of-in-NumOn.ensures

pub returns-in-NumOff : goal.returns-in-NumOff
unfolding bytes_of params_of
returns-in-NumOff c =
    rw c.in-NumOff.is c.of-in-NumOff.ensures

pub returns-in-StringsOff : goal.returns-in-StringsOff
unfolding bytes_of params_of
returns-in-StringsOff c =
    rw c.in-StringsOff.is c.of-in-StringsOff.ensures

pub returns-in-StringsOn : goal.returns-in-StringsOn
unfolding bytes_of params_of
returns-in-StringsOn c =
    rw c.in-StringsOn.is c.of-in-StringsOn.ensures

pub from_198-requires : goal.from_198-requires
from_198-requires c =
    leb-true 198 _ (not-false _ (none_passes (λ n. not (leb 198 n)) (25 ∷ 26 ∷ 27 ∷ 28 ∷ 29 ∷ 30 ∷ 31 ∷ 32 ∷ 33 ∷ 34 ∷ 35 ∷ 36 ∷ 37 ∷ 38 ∷ 39 ∷ 40 ∷ 41 ∷ 42 ∷ 43 ∷ 44 ∷ 45 ∷ 46 ∷ []) c.args.sequence refl c.in_default.in_default-own.keys26))
