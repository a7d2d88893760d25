-- What a `match` tells of a sequence: in the arm of one, what a legal sequence says of its parameters; in the last arm, which knows only the
-- positions of the cases that are left, every test of the second byte.
use mathlib.Core.Path.{◌∙◌, ◌≡◌, ap, refl, subst, sym}
use Prim.Native.Nat.{ℕ}
use mathlib.Core.Bool.{Bool, cond, true, false, not}
use mathlib.Core.List.{List, [], ◌∷◌}
use lib.ListN.{get_or}
use borrow.Author.Tests.{not-true}
use denote.Enum.Declared.{tag_of}
use types.Run.{OneOf}
use Rattle.model.specs.declared.Limits.{Limits}
use Rattle.model.specs.declared.Sequence.{Sequence as Seq}
use Rattle.model.specs.declared.Sequence.TheVariants.{PrintCode, Clear, CursorOff, CursorOn, Put, Charset, Copy, EraseLine, EraseRest, SecretOn, SecretOff, LinesUp, LinesDown, Step, Tracking, WindowUp, WindowDown, InsOn, InsOff, CapsOn, CapsOff, NumOn, NumOff, StringsOff, StringsOn, DrawLine, DrawDot, Mode0, Mode1, Mode2, Mode3, Select, Cover, Display, WindowTop, WindowBottom, CursorKind, WindowCursor, Pattern, Repeat, RepeatDelay, RepeatInterval, Arrows1, Arrows2, Arrows3, Nothing, Shift}
use Rattle.model.specs.Checks.{InRanges, in_ranges?}
use Rattle.model.specs.Judging.{judged_ranges, legal?, ranges}
use Rattle.model.specs.Sequences.{code_of, idle?}
use Rattle.model.specs.contracts.Sequence.{the_type}
use Rattle.model.proofs.Tests.{ranges-true}
use Rattle.model.proofs.Arms.{every, one_of}

-- P11: of what is not idle
pub ranged : {q k : Seq} (l : Limits) → legal? q l ≡ true → q ≡ k → idle? l.mode (code_of k) ≡ false → InRanges (ranges k l)
unfolding legal? judged_ranges
ranged {q} {k} l h e d = ranges-true (ranges k l) (sym (ap (λ (b : Bool). in_ranges? (cond b [] (ranges k l))) d) ∙ subst (λ (q : Seq). legal? q l ≡ true) e h)

-- the second bytes, by the position of the case
abbrev pub codes : List ℕ
codes =
    37 ∷ 42 ∷ 50 ∷ 51 ∷ 61 ∷ 67 ∷ 80 ∷ 84 ∷ 89 ∷ 123 ∷ 125 ∷ 144 ∷ 145 ∷ 148 ∷ 149 ∷ 150 ∷ 151 ∷ 160 ∷ 161 ∷ 162 ∷ 163 ∷ 164 ∷ 165 ∷ 176 ∷ 177 ∷ 198 ∷ 199 ∷ 208 ∷ 208 ∷ 208 ∷ 208
    ∷ 209 ∷ 210 ∷ 211 ∷ 212 ∷ 213 ∷ 214 ∷ 215 ∷ 224 ∷ 240 ∷ 241 ∷ 242 ∷ 243 ∷ 244 ∷ 245 ∷ 246 ∷ 247 ∷ []

code_at : (q : Seq) → get_or codes (tag_of the_type q) 0 ≡ code_of q
code_at (PrintCode a) = refl
code_at Clear = refl
code_at CursorOff = refl
code_at CursorOn = refl
code_at (Put a b) = refl
code_at (Charset a) = refl
code_at Copy = refl
code_at EraseLine = refl
code_at EraseRest = refl
code_at SecretOn = refl
code_at SecretOff = refl
code_at (LinesUp a b) = refl
code_at (LinesDown a b) = refl
code_at (Step a) = refl
code_at (Tracking a) = refl
code_at WindowUp = refl
code_at WindowDown = refl
code_at InsOn = refl
code_at InsOff = refl
code_at CapsOn = refl
code_at CapsOff = refl
code_at NumOn = refl
code_at NumOff = refl
code_at StringsOff = refl
code_at StringsOn = refl
code_at (DrawLine a b c d e f g h i j k) = refl
code_at (DrawDot a b c d) = refl
code_at (Mode0 a b) = refl
code_at (Mode1 a) = refl
code_at (Mode2 a b c) = refl
code_at Mode3 = refl
code_at (Select a) = refl
code_at (Cover a b c) = refl
code_at (Display a) = refl
code_at WindowTop = refl
code_at WindowBottom = refl
code_at (CursorKind a) = refl
code_at WindowCursor = refl
code_at (Pattern a b) = refl
code_at (Repeat a) = refl
code_at (RepeatDelay a) = refl
code_at (RepeatInterval a) = refl
code_at (Arrows1 a b c d) = refl
code_at (Arrows2 a b c d) = refl
code_at (Arrows3 a b c d) = refl
code_at Nothing = refl
code_at (Shift a) = refl

-- a test that none of the second bytes at those positions passes
pub none_passes : (f : ℕ → Bool) (cases : List ℕ) (q : Seq) → every (λ n. not (f (get_or codes n 0))) cases ≡ true → OneOf cases (tag_of the_type q) → f (code_of q) ≡ false
none_passes f cases q e o = not-true _ (subst (λ (c : ℕ). not (f c) ≡ true) (code_at q) (one_of (λ n. not (f (get_or codes n 0))) cases (tag_of the_type q) e o))
