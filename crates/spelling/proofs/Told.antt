-- What the bytes of each sequence tell, case by case: one lemma, and the laws that are read off it.
use mathlib.Core.Path.{◌∙◌, ◌≡◌, ap, refl, sym}
use Prim.Native.Nat.{ℕ}
use native.Mathlib.Omega.{arith}
use mathlib.Core.Bool.{cond}
use mathlib.Core.List.{List, [], ◌++◌, append-nil}
use lib.ListN.{drop, get_or, length}
use lib.Dec.{eqb}
use Rattle.model.specs.declared.Limits.{Limits}
use Rattle.model.specs.declared.Sequence.{Sequence as Seq}
use Rattle.model.specs.declared.Sequence.TheVariants.{PrintCode, Clear, CursorOff, CursorOn, Put, Charset, Copy, EraseLine, EraseRest, SecretOn, SecretOff, LinesUp, LinesDown, Step, Tracking, WindowUp, WindowDown, InsOn, InsOff, CapsOn, CapsOff, NumOn, NumOff, StringsOff, StringsOn, DrawLine, DrawDot, Mode0, Mode1, Mode2, Mode3, Select, Cover, Display, WindowTop, WindowBottom, CursorKind, WindowCursor, Pattern, Repeat, RepeatDelay, RepeatInterval, Arrows1, Arrows2, Arrows3, Nothing, Shift}
use Rattle.model.specs.declared.Item.TheVariants.{Sequence}
use Rattle.model.specs.Sequences.{code_of, find, mode_row_of, row_of}
use Rattle.model.specs.Reading.{after_escape, after_mode, decoded, kind_of, needed}
use Rattle.model.specs.Judging.{judged_ranges}
use Rattle.spelling.specs.Spelling.{bytes_of, params_of, standing}
use Rattle.spelling.specs.Given.{given_bytes}

-- the rows of a pattern, in its bytes
abbrev pub rows_told : List ℕ → List ℕ
rows_told bs = cond (eqb (get_or bs 1 0) 224) (drop 3 bs) []

-- the first bytes say how many there are and what they are; where it stands is not judged, and is in no byte; nor is it by its second byte
told : (q : Seq) (rows rest : List ℕ) (o : ℕ) (s : Limits)
    → (length rows ≡ 8 → needed (bytes_of q rows ++ rest) ≡ length (bytes_of q rows)) × (decoded o (bytes_of q rows) ≡ Sequence (standing o q)) × (judged_ranges (standing o q) s ≡ judged_ranges q s)
    × (bytes_of (standing o q) (cond (eqb (code_of q) 224) rows []) ≡ bytes_of q rows) × (cond (eqb (code_of q) 224) rows [] ≡ rows_told (bytes_of q rows)) × (given_bytes (code_of q) (params_of q rows) ≡ bytes_of q rows)
unfolding bytes_of params_of standing given_bytes needed after_escape after_mode row_of mode_row_of find decoded kind_of judged_ranges
told (PrintCode p1) rows rest o s = (λ e. refl, refl, refl, refl, refl, refl)
told Clear rows rest o s = (λ e. refl, refl, refl, refl, refl, refl)
told CursorOff rows rest o s = (λ e. refl, refl, refl, refl, refl, refl)
told CursorOn rows rest o s = (λ e. refl, refl, refl, refl, refl, refl)
told (Put p1 p2) rows rest o s = (λ e. refl, refl, refl, refl, refl, refl)
told (Charset p1) rows rest o s = (λ e. refl, refl, refl, refl, refl, refl)
told Copy rows rest o s = (λ e. refl, refl, refl, refl, refl, refl)
told EraseLine rows rest o s = (λ e. refl, refl, refl, refl, refl, refl)
told EraseRest rows rest o s = (λ e. refl, refl, refl, refl, refl, refl)
told SecretOn rows rest o s = (λ e. refl, refl, refl, refl, refl, refl)
told SecretOff rows rest o s = (λ e. refl, refl, refl, refl, refl, refl)
told (LinesUp p1 p2) rows rest o s = (λ e. refl, refl, refl, refl, refl, refl)
told (LinesDown p1 p2) rows rest o s = (λ e. refl, refl, refl, refl, refl, refl)
told (Step p1) rows rest o s = (λ e. refl, refl, refl, refl, refl, refl)
told (Tracking p1) rows rest o s = (λ e. refl, refl, refl, refl, refl, refl)
told WindowUp rows rest o s = (λ e. refl, refl, refl, refl, refl, refl)
told WindowDown rows rest o s = (λ e. refl, refl, refl, refl, refl, refl)
told InsOn rows rest o s = (λ e. refl, refl, refl, refl, refl, refl)
told InsOff rows rest o s = (λ e. refl, refl, refl, refl, refl, refl)
told CapsOn rows rest o s = (λ e. refl, refl, refl, refl, refl, refl)
told CapsOff rows rest o s = (λ e. refl, refl, refl, refl, refl, refl)
told NumOn rows rest o s = (λ e. refl, refl, refl, refl, refl, refl)
told NumOff rows rest o s = (λ e. refl, refl, refl, refl, refl, refl)
told StringsOff rows rest o s = (λ e. refl, refl, refl, refl, refl, refl)
told StringsOn rows rest o s = (λ e. refl, refl, refl, refl, refl, refl)
told (DrawLine p1 p2 p3 p4 p5 p6 p7 p8 p9 p10 p11) rows rest o s = (λ e. refl, refl, refl, refl, refl, refl)
told (DrawDot p1 p2 p3 p4) rows rest o s = (λ e. refl, refl, refl, refl, refl, refl)
told (Mode0 p1 p2) rows rest o s = (λ e. refl, refl, refl, refl, refl, refl)
told (Mode1 p1) rows rest o s = (λ e. refl, refl, refl, refl, refl, refl)
told (Mode2 p1 p2 p3) rows rest o s = (λ e. refl, refl, refl, refl, refl, refl)
told Mode3 rows rest o s = (λ e. refl, refl, refl, refl, refl, refl)
told (Select p1) rows rest o s = (λ e. refl, refl, refl, refl, refl, refl)
told (Cover p1 p2 p3) rows rest o s = (λ e. refl, refl, refl, refl, refl, refl)
told (Display p1) rows rest o s = (λ e. refl, refl, refl, refl, refl, refl)
told WindowTop rows rest o s = (λ e. refl, refl, refl, refl, refl, refl)
told WindowBottom rows rest o s = (λ e. refl, refl, refl, refl, refl, refl)
told (CursorKind p1) rows rest o s = (λ e. refl, refl, refl, refl, refl, refl)
told WindowCursor rows rest o s = (λ e. refl, refl, refl, refl, refl, refl)
told (Pattern p1 p2) rows rest o s = (λ e. omega arith, ap (λ (n : ℕ). Sequence (Pattern p1 n)) (omega arith), refl, refl, refl, refl)
told (Repeat p1) rows rest o s = (λ e. refl, refl, refl, refl, refl, refl)
told (RepeatDelay p1) rows rest o s = (λ e. refl, refl, refl, refl, refl, refl)
told (RepeatInterval p1) rows rest o s = (λ e. refl, refl, refl, refl, refl, refl)
told (Arrows1 p1 p2 p3 p4) rows rest o s = (λ e. refl, refl, refl, refl, refl, refl)
told (Arrows2 p1 p2 p3 p4) rows rest o s = (λ e. refl, refl, refl, refl, refl, refl)
told (Arrows3 p1 p2 p3 p4) rows rest o s = (λ e. refl, refl, refl, refl, refl, refl)
told Nothing rows rest o s = (λ e. refl, refl, refl, refl, refl, refl)
told (Shift p1) rows rest o s = (λ e. refl, refl, refl, refl, refl, refl)

-- some limits: but for one, none of these laws looks at them
abbrev any : Limits
any = record { mode = 0; lines = 0; columns = 0; height = 0 }

module _ (q : Seq) (rows : List ℕ) where
  pub needed-then : length rows ≡ 8 → (rest : List ℕ) → needed (bytes_of q rows ++ rest) ≡ length (bytes_of q rows)
  needed-then e rest = (told q rows rest 0 any).0 e

  pub needed_alone : length rows ≡ 8 → needed (bytes_of q rows) ≡ length (bytes_of q rows)
  needed_alone e = ap needed (sym (append-nil (bytes_of q rows))) ∙ needed-then e []

  pub decoded_so : (o : ℕ) → decoded o (bytes_of q rows) ≡ Sequence (standing o q)
  decoded_so o = (told q rows [] o any).1

  pub judged_anywhere : (o : ℕ) (s : Limits) → judged_ranges (standing o q) s ≡ judged_ranges q s
  judged_anywhere o s = (told q rows [] o s).2

  pub named_bytes : bytes_of (standing 0 q) (cond (eqb (code_of q) 224) rows []) ≡ bytes_of q rows
  named_bytes = (told q rows [] 0 any).3

  pub rows_sent : cond (eqb (code_of q) 224) rows [] ≡ rows_told (bytes_of q rows)
  rows_sent = (told q rows [] 0 any).4

  pub given_bytes_lem : given_bytes (code_of q) (params_of q rows) ≡ bytes_of q rows
  given_bytes_lem = (told q rows [] 0 any).5
