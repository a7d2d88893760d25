-- Document 02, P1, for the code: an answer counted from the stream's start, two answers of one piece, and what a piece is refused by before
-- its settings are judged whole.
use Rattle.std.specs.Prelude.{ℕ, ◌+◌, ◌^◌, ◌<◌, cond, List, eqb}
use Rattle.model.specs.declared.Answer.{Answer}
use Rattle.model.specs.declared.Settings.{Settings}
use Rattle.calls.specs.Calls.{Terminal, countable, sendable, sized, sound_in}
use Rattle.model.specs.Line.{line?}
use Rattle.model.specs.Answers.{together}

-- "offsets count from the stream's start": the first refusal's offset, if there is one; so many bytes taken
abbrev pub counted_from : ℕ → ℕ → Answer → Answer
counted_from start n a =
    record { number = a.number; taken = n; accepted = a.accepted; refused = a.refused; first = a.first; parameter = a.parameter; offset = cond (eqb a.refused 0) a.offset (start + a.offset); printed = a.printed }

-- 1, 2, 3 where the line is not sound, 15 after 3; or 0 where the limit is kept, and whether the rest of the settings is sound is not told yet
unfoldable pub line_number : Terminal → List ℕ → ℕ
line_number t m =
    let s : Settings = t.state.settings in
    cond (sized t) (cond (sendable m) (cond (line? s.waiting s.held s.count) (cond (countable s m) 0 (cond (sound_in t) 15 3)) 3) 2) 1

-- the same of the closing
unfoldable pub closing_number : Terminal → ℕ
closing_number t = let s : Settings = t.state.settings in cond (sized t) (cond (line? s.waiting s.held s.count) 0 3) 1

-- two answers as one, the second's items so many bytes further on
abbrev pub both_of : Answer → Answer → ℕ → Answer
both_of a b k = together a (counted_from k b.taken b)

-- they can be added
pub record Addable (a b : Answer) (k : ℕ) : Type 0 where
  pub taken : a.taken + b.taken < 2 ^ 32
  pub accepted : a.accepted + b.accepted < 2 ^ 32
  pub refused : a.refused + b.refused < 2 ^ 32
  pub printed : a.printed + b.printed < 2 ^ 64
  pub offset : k + b.offset < 2 ^ 32
