-- What serving a message leaves, by the rules: the state, the answer and the printer bytes of all its items, and the picture.
use Rattle.std.specs.Prelude.{◌≡◌, ℕ, ◌≤◌, List, drop, length}
use Rattle.model.specs.declared.Outcome.{Outcome}
use Rattle.model.specs.declared.Settings.{Settings}
use Rattle.model.specs.Bytes.{written}
use Rattle.model.specs.State.{State, state}
use Rattle.model.specs.Sound.{Good}
use Rattle.model.specs.Picture.{painting}
use Rattle.model.specs.Reading.{Read, uncut}
use Rattle.model.specs.Items.{apply_all, blank_answer, copies, counted_all, events_of, reads_of}
use Rattle.counting.specs.declared.Counts.{Counts}
use Rattle.counting.specs.Counting.{answer_at}

-- what serving asks: that what stands is good, a message that is not too long, and a shown screen of its size
pub record Servable (s : Settings) (m cells layer dots shown : List ℕ) : Type 0 where
  pub good : Good (state s cells layer dots)
  pub sendable : length m ≤ 4096
  pub shown_are : length shown ≡ 640

-- the items of a message, read from what stands, with a printer buffer
abbrev pub items_of : List ℕ → State → List ℕ → List Read
items_of m st buffer = reads_of (uncut m) 0 st (length buffer)

pub record Serves (m : List ℕ) (st : State) (buffer : List ℕ) (r : Outcome) (cells layer dots shown printer : List ℕ) : Type 0 where
  pub state_is : state r.settings cells layer dots ≡ apply_all (events_of (items_of m st buffer)) st
  pub shown_is : shown ≡ painting (state r.settings cells layer dots)
  pub answer_is : r.answer ≡ counted_all (items_of m st buffer) (blank_answer 0 (length m))
  pub printer_is : printer ≡ written (copies (events_of (items_of m st buffer)) st) buffer

-- the items from an offset on, with what was counted before it, and nothing printed; of the shown screen nothing is said
abbrev pub items_from : List ℕ → ℕ → State → List ℕ → List Read
items_from m from st buffer = reads_of (uncut (drop from m)) from st (length buffer)

pub record Runs (m : List ℕ) (from : ℕ) (c : Counts) (st : State) (buffer : List ℕ) (r : Outcome) (cells layer dots printer : List ℕ) : Type 0 where
  pub state_is : state r.settings cells layer dots ≡ apply_all (events_of (items_from m from st buffer)) st
  pub answer_is : r.answer ≡ counted_all (items_from m from st buffer) (answer_at (length m) c)
  pub printer_is : printer ≡ written (copies (events_of (items_from m from st buffer)) st) buffer
