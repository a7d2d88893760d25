-- Document 02, P7, "Write the sequences": the bytes of a named sequence. The sequence is the model's own, so that reading and writing name the
-- same things; the eight rows of a pattern, which the model names by their offset in a message, stand beside it, and that offset says nothing here.
-- Whether a sequence is accepted, and where its bytes go, is the crate `writer`'s.
use Rattle.std.specs.Prelude.{ℕ, ◌+◌, cond, List, [], ◌∷◌, eqb}
use Rattle.model.specs.declared.Sequence.{Sequence as Seq}
use Rattle.model.specs.declared.Sequence.TheVariants.{PrintCode, Clear, CursorOff, CursorOn, Put, Charset, Copy, EraseLine, EraseRest, SecretOn, SecretOff, LinesUp, LinesDown, Step, Tracking, WindowUp, WindowDown, InsOn, InsOff, CapsOn, CapsOff, NumOn, NumOff, StringsOff, StringsOn, DrawLine, DrawDot, Mode0, Mode1, Mode2, Mode3, Select, Cover, Display, WindowTop, WindowBottom, CursorKind, WindowCursor, Pattern, Repeat, RepeatDelay, RepeatInterval, Arrows1, Arrows2, Arrows3, Nothing, Shift}
use Rattle.model.specs.Sequences.{code_of}

-- "its parameters (bytes as sent)": what follows the second byte, a mode setting's mode byte first; "209 is always written with its byte"
unfoldable pub params_of : Seq → List ℕ → List ℕ
params_of (PrintCode c) rows = c ∷ []
params_of Clear rows = []
params_of CursorOff rows = []
params_of CursorOn rows = []
params_of (Put l c) rows = l ∷ c ∷ []
params_of (Charset n) rows = n ∷ []
params_of Copy rows = []
params_of EraseLine rows = []
params_of EraseRest rows = []
params_of SecretOn rows = []
params_of SecretOff rows = []
params_of (LinesUp a m) rows = a ∷ m ∷ []
params_of (LinesDown a m) rows = a ∷ m ∷ []
params_of (Step n) rows = n ∷ []
params_of (Tracking n) rows = n ∷ []
params_of WindowUp rows = []
params_of WindowDown rows = []
params_of InsOn rows = []
params_of InsOff rows = []
params_of CapsOn rows = []
params_of CapsOff rows = []
params_of NumOn rows = []
params_of NumOff rows = []
params_of StringsOff rows = []
params_of StringsOn rows = []
params_of (DrawLine p1 p2 p3 p4 p5 p6 p7 p8 p9 p10 p11) rows = p1 ∷ p2 ∷ p3 ∷ p4 ∷ p5 ∷ p6 ∷ p7 ∷ p8 ∷ p9 ∷ p10 ∷ p11 ∷ []
params_of (DrawDot p1 p2 p3 p4) rows = p1 ∷ p2 ∷ p3 ∷ p4 ∷ []
params_of (Mode0 a b) rows = 0 ∷ a ∷ b ∷ []
params_of (Mode1 a) rows = 1 ∷ a ∷ []
params_of (Mode2 a m p) rows = 2 ∷ a ∷ m ∷ p ∷ []
params_of Mode3 rows = 3 ∷ []
params_of (Select n) rows = n ∷ []
params_of (Cover r c p) rows = r ∷ c ∷ p ∷ []
params_of (Display n) rows = n ∷ []
params_of WindowTop rows = []
params_of WindowBottom rows = []
params_of (CursorKind n) rows = n ∷ []
params_of WindowCursor rows = []
params_of (Pattern c at) rows = c ∷ rows
params_of (Repeat n) rows = n ∷ []
params_of (RepeatDelay n) rows = n ∷ []
params_of (RepeatInterval n) rows = n ∷ []
params_of (Arrows1 c1 c2 c3 c4) rows = c1 ∷ c2 ∷ c3 ∷ c4 ∷ []
params_of (Arrows2 c1 c2 c3 c4) rows = c1 ∷ c2 ∷ c3 ∷ c4 ∷ []
params_of (Arrows3 c1 c2 c3 c4) rows = c1 ∷ c2 ∷ c3 ∷ c4 ∷ []
params_of Nothing rows = []
params_of (Shift n) rows = n ∷ []

-- "From a named sequence and its parameters (bytes as sent), write its bytes and no other"
unfoldable pub bytes_of : Seq → List ℕ → List ℕ
bytes_of q rows = 27 ∷ code_of q ∷ params_of q rows

-- the same sequence with its ESC at an offset of a message: the rows of a pattern begin behind ESC, 224 and the code
unfoldable pub standing : ℕ → Seq → Seq
standing o (PrintCode c) = PrintCode c
standing o Clear = Clear
standing o CursorOff = CursorOff
standing o CursorOn = CursorOn
standing o (Put l c) = Put l c
standing o (Charset n) = Charset n
standing o Copy = Copy
standing o EraseLine = EraseLine
standing o EraseRest = EraseRest
standing o SecretOn = SecretOn
standing o SecretOff = SecretOff
standing o (LinesUp a m) = LinesUp a m
standing o (LinesDown a m) = LinesDown a m
standing o (Step n) = Step n
standing o (Tracking n) = Tracking n
standing o WindowUp = WindowUp
standing o WindowDown = WindowDown
standing o InsOn = InsOn
standing o InsOff = InsOff
standing o CapsOn = CapsOn
standing o CapsOff = CapsOff
standing o NumOn = NumOn
standing o NumOff = NumOff
standing o StringsOff = StringsOff
standing o StringsOn = StringsOn
standing o (DrawLine p1 p2 p3 p4 p5 p6 p7 p8 p9 p10 p11) = DrawLine p1 p2 p3 p4 p5 p6 p7 p8 p9 p10 p11
standing o (DrawDot p1 p2 p3 p4) = DrawDot p1 p2 p3 p4
standing o (Mode0 a b) = Mode0 a b
standing o (Mode1 a) = Mode1 a
standing o (Mode2 a m p) = Mode2 a m p
standing o Mode3 = Mode3
standing o (Select n) = Select n
standing o (Cover r c p) = Cover r c p
standing o (Display n) = Display n
standing o WindowTop = WindowTop
standing o WindowBottom = WindowBottom
standing o (CursorKind n) = CursorKind n
standing o WindowCursor = WindowCursor
standing o (Pattern c at) = Pattern c (o + 3)
standing o (Repeat n) = Repeat n
standing o (RepeatDelay n) = RepeatDelay n
standing o (RepeatInterval n) = RepeatInterval n
standing o (Arrows1 c1 c2 c3 c4) = Arrows1 c1 c2 c3 c4
standing o (Arrows2 c1 c2 c3 c4) = Arrows2 c1 c2 c3 c4
standing o (Arrows3 c1 c2 c3 c4) = Arrows3 c1 c2 c3 c4
standing o Nothing = Nothing
standing o (Shift n) = Shift n

-- what was named: the sequence, wherever it stood, and the rows where it is a pattern
pub record Named : Type 0 where
  pub sequence : Seq
  pub rows : List ℕ

unfoldable pub named : Seq → List ℕ → Named
named q rows = record { sequence = standing 0 q; rows = cond (eqb (code_of q) 224) rows [] }
