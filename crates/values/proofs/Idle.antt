-- What the last arm of `set` knows of a sequence: it changes nothing (crate screen's, 80 and 246) or does more than set something.
use mathlib.Core.Path.{◌∙◌, ◌≡◌, ap, refl, sym}
use Prim.Native.Nat.{ℕ}
use mathlib.Core.Bool.{false}
use mathlib.Core.List.{List, [], ◌∷◌}
use denote.Enum.Declared.{tag_of}
use types.Run.{OneOf, miss}
use Rattle.model.specs.declared.Sequence.{Sequence as Seq}
use Rattle.model.specs.declared.Sequence.TheVariants.{PrintCode, Clear, CursorOff, CursorOn, Put, Charset, Copy, EraseLine, EraseRest, SecretOn, SecretOff, LinesUp, LinesDown, Step, Tracking, WindowUp, WindowDown, InsOn, InsOff, CapsOn, CapsOff, NumOn, NumOff, StringsOff, StringsOn, DrawLine, DrawDot, Mode0, Mode1, Mode2, Mode3, Select, Cover, Display, WindowTop, WindowBottom, CursorKind, WindowCursor, Pattern, Repeat, RepeatDelay, RepeatInterval, Arrows1, Arrows2, Arrows3, Nothing, Shift}
use Rattle.model.specs.State.{State}
use Rattle.model.specs.Checks.{member}
use Rattle.model.specs.Sequences.{code_of, idle?}
use Rattle.model.specs.OnScreen.{on_screen?}
use Rattle.model.specs.Rules.{obeyed}
use Rattle.model.specs.contracts.Sequence.{the_type}
use Rattle.model.proofs.Tests.{differ}
use Rattle.values.specs.Setting.{more, settled}

-- the variants, by their position, that `set` leaves to its last arm
abbrev unset : List ℕ
unset = 0 ∷ 1 ∷ 4 ∷ 6 ∷ 7 ∷ 8 ∷ 11 ∷ 12 ∷ 15 ∷ 16 ∷ 25 ∷ 26 ∷ 27 ∷ 28 ∷ 29 ∷ 30 ∷ 31 ∷ 32 ∷ 33 ∷ 34 ∷ 35 ∷ 37 ∷ 38 ∷ 45 ∷ []

-- what `set` leaves changes nothing, unless it does more than set something
pub idle : (q : Seq) → OneOf unset (tag_of the_type q) → member (code_of q) more ≡ false → (m : List ℕ) (st : State) → st ≡ settled m q st
unfolding settled on_screen? member obeyed
idle (PrintCode a) z o m st = refl
idle Clear z o m st = refl
idle CursorOff z o m st = absurd (miss unset 2 tt z)
idle CursorOn z o m st = absurd (miss unset 3 tt z)
idle (Put a b) z o m st = refl
idle (Charset a) z o m st = absurd (miss unset 5 tt z)
idle Copy z o m st = refl
idle EraseLine z o m st = refl
idle EraseRest z o m st = refl
idle SecretOn z o m st = absurd (miss unset 9 tt z)
idle SecretOff z o m st = absurd (miss unset 10 tt z)
idle (LinesUp a b) z o m st = refl
idle (LinesDown a b) z o m st = refl
idle (Step a) z o m st = absurd (miss unset 13 tt z)
idle (Tracking a) z o m st = absurd (miss unset 14 tt z)
idle WindowUp z o m st = refl
idle WindowDown z o m st = refl
idle InsOn z o m st = absurd (miss unset 17 tt z)
idle InsOff z o m st = absurd (miss unset 18 tt z)
idle CapsOn z o m st = absurd (miss unset 19 tt z)
idle CapsOff z o m st = absurd (miss unset 20 tt z)
idle NumOn z o m st = absurd (miss unset 21 tt z)
idle NumOff z o m st = absurd (miss unset 22 tt z)
idle StringsOff z o m st = absurd (miss unset 23 tt z)
idle StringsOn z o m st = absurd (miss unset 24 tt z)
idle (DrawLine a b c d e f g h i j k) z o m st = absurd (differ o)
idle (DrawDot a b c d) z o m st = absurd (differ o)
idle (Mode0 a b) z o m st = absurd (differ o)
idle (Mode1 a) z o m st = absurd (differ o)
idle (Mode2 a b c) z o m st = absurd (differ o)
idle Mode3 z o m st = absurd (differ o)
idle (Select a) z o m st = absurd (differ o)
idle (Cover a b c) z o m st = absurd (differ o)
idle (Display a) z o m st = absurd (differ o)
idle WindowTop z o m st = refl
idle WindowBottom z o m st = refl
idle (CursorKind a) z o m st = absurd (miss unset 36 tt z)
idle WindowCursor z o m st = refl
idle (Pattern a b) z o m st = absurd (differ o)
idle (Repeat a) z o m st = absurd (miss unset 39 tt z)
idle (RepeatDelay a) z o m st = absurd (miss unset 40 tt z)
idle (RepeatInterval a) z o m st = absurd (miss unset 41 tt z)
idle (Arrows1 a b c d) z o m st = absurd (miss unset 42 tt z)
idle (Arrows2 a b c d) z o m st = absurd (miss unset 43 tt z)
idle (Arrows3 a b c d) z o m st = absurd (miss unset 44 tt z)
idle Nothing z o m st = refl
idle (Shift a) z o m st = absurd (miss unset 46 tt z)

-- what is not idle, once it is known which sequence it is
pub awake_as : {q k : Seq} (mode : ℕ) → q ≡ k → idle? mode (code_of q) ≡ false → idle? mode (code_of k) ≡ false
awake_as mode e h = ap (λ (x : Seq). idle? mode (code_of x)) (sym e) ∙ h
