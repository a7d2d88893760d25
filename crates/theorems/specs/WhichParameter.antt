-- Document 02, P10, "Say which parameter": what the parameter beside a refusal's number says, of a sequence, of an item and of every
-- answer of a list of calls. Its words are in Parameters of the crate `model`. It stands beside demand 3, which says that every answer is the rules' own.
use Rattle.std.specs.Prelude.{◌≡◌, ℕ, ◌+◌, ◌<◌, false, List, length, get_or, eqb}
use Rattle.model.specs.declared.Limits.{Limits}
use Rattle.model.specs.declared.Sequence.{Sequence as Seq}
use Rattle.model.specs.declared.Item.TheVariants.{Sequence, Refused}
use Rattle.model.specs.Bytes.{list_from}
use Rattle.model.specs.Reading.{decoded, item_of}
use Rattle.model.specs.Sequences.{code_of}
use Rattle.model.specs.Judging.{ranges, judged_ranges, legal?, bad_of, judged}
use Rattle.calls.specs.Calls.{Terminal, Call, request_of, reads_in}
use Rattle.calls.specs.Lists.{Made, Nth, stood}
use Rattle.model.specs.Parameters.{FirstBad, FirstRefusal, Named, NamedItem, sent_at, values_of}

-- the whole of it
pub record Naming : Type 0 where
  -- a sequence is legal exactly if it has no bad parameter
  pub legal : (q : Seq) (s : Limits) → legal? q s ≡ eqb (bad_of q s) 0
  -- "The reading of one sequence must name its first bad parameter"
  pub first : (q : Seq) (s : Limits) (room : ℕ) → legal? q s ≡ false → (judged (Sequence q) s room ≡ Refused 11 (bad_of q s)) × (FirstBad 1 (judged_ranges q s) (bad_of q s))
  -- "counted from 1 after the second byte": the checks of a sequence are of its bytes from the third on, in their order, that of a two-byte
  -- number at its low byte; a free one is of any
  pub numbered : (at : ℕ) (bs : List ℕ) (q : Seq) (s : Limits) → decoded at bs ≡ Sequence q
      → let p : ℕ → ℕ = λ n. get_or bs (n + 1) 0 in values_of (sent_at (code_of q) p) 1 (ranges q s) ≡ list_from (sent_at (code_of q) p) 1 (length (ranges q s))
  -- the byte after 27, 208 is parameter 1: over 3, it is the one that is named
  pub mode_byte : (at : ℕ) (bs : List ℕ) → get_or bs 0 0 ≡ 27 → get_or bs 1 0 ≡ 208 → 3 < get_or bs 2 0 → decoded at bs ≡ Refused 11 1
  -- every item that is read, whatever its bytes
  pub items : (at : ℕ) (bs : List ℕ) (s : Limits) (room : ℕ) → NamedItem (judged (item_of at bs) s room)
  -- "every answer that carries a first refusal passes it on": number, parameter and offset are the first refusal's of what the call read
  pub passed_on : (t : Terminal) (cs : List Call) → Made t cs → (n : ℕ) (c : Call) → Nth n cs c
      → FirstRefusal (reads_in (stood t cs n) (request_of c)) c.answer.first c.answer.parameter c.answer.offset
  -- no answer has a parameter without 11, nor 11 without a parameter
  pub answers : (t : Terminal) (cs : List Call) → Made t cs → (n : ℕ) (c : Call) → Nth n cs c → Named c.answer.first c.answer.parameter
