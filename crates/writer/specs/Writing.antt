-- Document 02, P7: when a sequence is refused, and what a call that writes one answers and leaves of the buffer. Its bytes are the crate
-- `spelling`'s. The number of a refusal is the reader's own word on these bytes, so that no range is said here a second time.
use Rattle.std.specs.Prelude.{ℕ, ◌+◌, Bool, cond, List, [], ◌∷◌, length, eqb, leb, ltb}
use Rattle.model.specs.declared.Settings.{Settings}
use Rattle.model.specs.declared.Sequence.{Sequence as Seq}
use Rattle.model.specs.declared.Item.{Item}
use Rattle.model.specs.declared.Item.TheVariants.{Printed, Control, Sequence, Refused}
use Rattle.model.specs.Bytes.{put}
use Rattle.model.specs.Picture.{copy_size_of}
use Rattle.model.specs.Reading.{item_of, needed}
use Rattle.model.specs.Judging.{judged, limits_of}
use Rattle.model.specs.Sound.{sound?}
use Rattle.calls.specs.Calls.{Reason, first_of, reason}
use Rattle.spelling.specs.Spelling.{bytes_of}
use Rattle.spelling.specs.Given.{given_bytes}

-- "the reader under the settings given, waiting bytes aside, .. with room for a copy": what it says of some bytes that nothing waits before
unfoldable pub said : Settings → List ℕ → Item
said s bs = judged (item_of 0 bs) (limits_of s) (copy_size_of s.mode)

-- the same of bytes that a caller gave: with more behind the sequence they are none of the list, 10
unfoldable pub said_of_all : Settings → List ℕ → Item
said_of_all s bs = cond (ltb (needed bs) (length bs)) (Refused 10 0) (said s bs)

-- the number that an item is refused with, 0 of any other; and the parameter that it names (P10)
unfoldable pub number_in : Item → ℕ
number_in (Printed c) = 0
number_in (Control c) = 0
number_in (Sequence q) = 0
number_in (Refused n p) = n

unfoldable pub parameter_in : Item → ℕ
parameter_in (Printed c) = 0
parameter_in (Control c) = 0
parameter_in (Sequence q) = 0
parameter_in (Refused n p) = p

-- what is to be written: what the reader says of it, and its bytes
pub record Wanted : Type 0 where
  pub word : Item
  pub bytes : List ℕ

-- a named sequence, with the rows of a pattern
abbrev pub wanted : Settings → Seq → List ℕ → Wanted
wanted s q rows = record { word = said s (bytes_of q rows); bytes = bytes_of q rows }

-- a second byte and its parameters
abbrev pub wanted_by : Settings → ℕ → List ℕ → Wanted
wanted_by s second ps = record { word = said_of_all s (given_bytes second ps); bytes = given_bytes second ps }

-- 22: "no space (or a place past the buffer)"; here, that there is space. No sequence is empty, so the one test is both
unfoldable pub space? : List ℕ → ℕ → List ℕ → Bool
space? b at bs = leb (at + length bs) (length b)

-- "Refusals: 3 first; 22 .. last", the reader's between them
abbrev pub reasons_of : Settings → Wanted → List ℕ → ℕ → List Reason
reasons_of s x b at = reason 3 (sound? s) ∷ reason (number_in x.word) (eqb (number_in x.word) 0) ∷ reason 22 (space? b at x.bytes) ∷ []

-- 0, or the number of the first that applies
unfoldable pub number_of : Settings → Wanted → List ℕ → ℕ → ℕ
number_of s x b at = first_of (reasons_of s x b at)

-- P10: "every answer that carries a first refusal passes it on, the writer's too"
unfoldable pub parameter_of : Settings → Wanted → ℕ
parameter_of s x = cond (sound? s) (parameter_in x.word) 0

-- the place reached, and what the buffer then holds: "buffer and place stay" where the number is not 0
unfoldable pub place_after : Settings → Wanted → List ℕ → ℕ → ℕ
place_after s x b at = cond (eqb (number_of s x b at) 0) (at + length x.bytes) at

unfoldable pub buffer_after : Settings → Wanted → List ℕ → ℕ → List ℕ
buffer_after s x b at = cond (eqb (number_of s x b at) 0) (put at x.bytes b) b
