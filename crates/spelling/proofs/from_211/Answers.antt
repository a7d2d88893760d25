-- `spelling::from_211` meets its contract: arm by arm as `spell`; the last is none of them.
use mathlib.Core.Path.{ap}
use Prim.Native.Nat.{ℕ}
use mathlib.Core.List.{List, ◌∷◌}
use borrow.Author.Rules.{rules}
use Rattle.spelling.specs.Spelling.{bytes_of, params_of}
use Rattle.spelling.proofs.Only.{eight}
use Rattle.spelling.proofs.from_211.Goals as goal

pub returns-in-Display : goal.returns-in-Display
unfolding bytes_of params_of
returns-in-Display c =
    rw c.in-Display.is c.of.ensures

pub returns-in-WindowTop : goal.returns-in-WindowTop
unfolding bytes_of params_of
returns-in-WindowTop c =
    rw c.in-WindowTop.is c.of-in-WindowTop.ensures

pub returns-in-WindowBottom : goal.returns-in-WindowBottom
unfolding bytes_of params_of
returns-in-WindowBottom c =
    rw c.in-WindowBottom.is c.of-in-WindowBottom.ensures

pub returns-in-CursorKind : goal.returns-in-CursorKind
unfolding bytes_of params_of
returns-in-CursorKind c =
    rw c.in-CursorKind.is c.of-in-CursorKind.ensures

pub returns-in-WindowCursor : goal.returns-in-WindowCursor
unfolding bytes_of params_of
returns-in-WindowCursor c =
    rw c.in-WindowCursor.is c.of-in-WindowCursor.ensures

pub returns-in-Pattern : goal.returns-in-Pattern
unfolding bytes_of params_of
returns-in-Pattern c =
    rw (c.in-Pattern.is, c.of-in-Pattern.ensures) (ap (λ (l : List ℕ). 27 ∷ 224 ∷ c.in-Pattern.code ∷ l) (eight c.args.rows (search rules)))

pub returns-in-Repeat : goal.returns-in-Repeat
unfolding bytes_of params_of
returns-in-Repeat c =
    rw c.in-Repeat.is c.of-in-Repeat.ensures

pub returns-in-RepeatDelay : goal.returns-in-RepeatDelay
unfolding bytes_of params_of
returns-in-RepeatDelay c =
    rw c.in-RepeatDelay.is c.of-in-RepeatDelay.ensures

pub returns-in-RepeatInterval : goal.returns-in-RepeatInterval
unfolding bytes_of params_of
returns-in-RepeatInterval c =
    rw c.in-RepeatInterval.is c.of-in-RepeatInterval.ensures

pub returns-in-Arrows1 : goal.returns-in-Arrows1
unfolding bytes_of params_of
returns-in-Arrows1 c =
    rw c.in-Arrows1.is c.of-in-Arrows1.ensures

pub returns-in-Arrows2 : goal.returns-in-Arrows2
unfolding bytes_of params_of
returns-in-Arrows2 c =
    rw c.in-Arrows2.is c.of-in-Arrows2.ensures

pub returns-in-Arrows3 : goal.returns-in-Arrows3
unfolding bytes_of params_of
returns-in-Arrows3 c =
    rw c.in-Arrows3.is c.of-in-Arrows3.ensures

pub returns-in-Nothing : goal.returns-in-Nothing
unfolding bytes_of params_of
returns-in-Nothing c =
    rw c.in-Nothing.is c.of-in-Nothing.ensures

pub returns-in-Shift : goal.returns-in-Shift
unfolding bytes_of params_of
returns-in-Shift c =
    rw c.in-Shift.is c.of-in-Shift.ensures
