-- Document 02, P7: what is claimed of a call that writes, and of several, beside its definition. That sequences are read back from their bytes,
-- and differ in them, is claimed in the crate `spelling`.
use Rattle.std.specs.Prelude.{◌≡◌, ℕ, ◌+◌, ◌*◌, ◌≤◌, cond, true, List, [], ◌∷◌, ◌++◌, drop, length, take}
use Rattle.model.specs.declared.Settings.{Settings}
use Rattle.model.specs.declared.Sequence.{Sequence as Seq}
use Rattle.model.specs.declared.Item.TheVariants.{Sequence}
use Rattle.model.specs.State.{State, with_line}
use Rattle.model.specs.Picture.{copy_size_of}
use Rattle.model.specs.Sequences.{code_of}
use Rattle.model.specs.Reading.{item_of, uncut}
use Rattle.model.specs.Judging.{bad_of, judged, legal?, limits_of}
use Rattle.model.specs.Items.{printer_bytes, reads_of}
use Rattle.model.specs.Sound.{sound?}
use Rattle.spelling.specs.Spelling.{bytes_of, params_of, standing}
use Rattle.writer.specs.Writing.{buffer_after, number_of, parameter_of, said, space?, wanted, wanted_by}
use Rattle.writer.specs.Several.{Asked, all_bytes, buffer_all, place_all, read_back, sent_by}

-- of one named sequence, whose rows are eight, a buffer and a place
pub record Writes (s : Settings) (q : Seq) (rows : List ℕ) (b : List ℕ) (at : ℕ) : Type 0 where
  -- the reader's numbers are 11 alone, with the first bad parameter: "refused exactly if the reader .. would refuse it"
  pub number : sound? s ≡ true → number_of s (wanted s q rows) b at ≡ cond (legal? q (limits_of s)) (cond (space? b at (bytes_of q rows)) 0 22) 11
  pub parameter : sound? s ≡ true → parameter_of s (wanted s q rows) ≡ cond (legal? q (limits_of s)) 0 (bad_of q (limits_of s))
  -- "write its bytes and no other": from the place on, the buffer before and behind as it was
  pub before : number_of s (wanted s q rows) b at ≡ 0 → take (at + length (bytes_of q rows)) (buffer_after s (wanted s q rows) b at) ≡ take at b ++ bytes_of q rows
  pub behind : number_of s (wanted s q rows) b at ≡ 0 → drop (at + length (bytes_of q rows)) (buffer_after s (wanted s q rows) b at) ≡ drop (at + length (bytes_of q rows)) b
  -- what is not refused is read back under the same settings, wherever it stands, with room for a copy
  pub back : number_of s (wanted s q rows) b at ≡ 0 → (o room : ℕ) → copy_size_of s.mode ≤ room → judged (item_of o (bytes_of q rows)) (limits_of s) room ≡ Sequence (standing o q)
  -- and a message of these bytes is that one item
  pub message : number_of s (wanted s q rows) b at ≡ 0 → (st : State) (room : ℕ) → st.settings ≡ s → copy_size_of s.mode ≤ room
      → reads_of (uncut (bytes_of q rows)) 0 st room ≡ record { at = 0; item = Sequence (standing 0 q); bytes = bytes_of q rows; prints = printer_bytes s.mode (Sequence (standing 0 q)) } ∷ []
  -- "waiting bytes aside": the reader's word is the same whatever waits
  pub aside : (w : List ℕ) (h n : ℕ) → said (with_line s w h n) (bytes_of q rows) ≡ said s (bytes_of q rows)
  -- by its second byte and its parameters it is the same request
  pub given : wanted_by s (code_of q) (params_of q rows) ≡ wanted s q rows

-- the whole of it
pub record Writing : Type 0 where
  pub writes : (s : Settings) (q : Seq) (rows : List ℕ) (b : List ℕ) (at : ℕ) → length rows ≡ 8 → Writes s q rows b at
  -- by a second byte and parameters nothing but a sequence is written
  pub only : (s : Settings) (second : ℕ) (ps b : List ℕ) (at : ℕ) → number_of s (wanted_by s second ps) b at ≡ 0 → (q : Seq) × ((rows : List ℕ) × ((length rows ≡ 8) × ((wanted_by s second ps).bytes ≡ bytes_of q rows)))
  -- several, one behind another: the bytes of those that were accepted, cut by the reader into exactly those
  pub several : (cs : List Asked) (b : List ℕ) (at : ℕ) → at ≤ length b → uncut (drop at (take (place_all cs b at) (buffer_all cs b at))) ≡ all_bytes (sent_by cs b at)
  -- and read item after item, with room for a copy each
  pub reads : (cs : List Asked) (b : List ℕ) (at : ℕ) (o : ℕ) (st : State) (room : ℕ) → 3840 * length (sent_by cs b at) ≤ room → reads_of (all_bytes (sent_by cs b at)) o st room ≡ read_back (sent_by cs b at) o st
