-- What serving a short message leaves, by the rules: as a message's (serving's `Serves`), but for the places that are painted (P12).
use Rattle.std.specs.Prelude.{◌≡◌, ℕ, List, length}
use Rattle.model.specs.declared.Outcome.{Outcome}
use Rattle.model.specs.Bytes.{written}
use Rattle.model.specs.State.{State, state}
use Rattle.calls.specs.Repaint.{shown_behind}
use Rattle.model.specs.Items.{apply_all, blank_answer, copies, counted_all, events_of}
use Rattle.serving.specs.Serves.{items_of}

pub record ServesShort (m : List ℕ) (st : State) (buffer shown₀ : List ℕ) (r : Outcome) (cells layer dots shown printer : List ℕ) : Type 0 where
  pub state_is : state r.settings cells layer dots ≡ apply_all (events_of (items_of m st buffer)) st
  pub shown_is : shown ≡ shown_behind (items_of m st buffer) st (state r.settings cells layer dots) shown₀
  pub answer_is : r.answer ≡ counted_all (items_of m st buffer) (blank_answer 0 (length m))
  pub printer_is : printer ≡ written (copies (events_of (items_of m st buffer)) st) buffer
