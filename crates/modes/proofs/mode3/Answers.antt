-- `modes::mode3` meets its contract: what `set` leaves, with type 3 and key display 1.
use mathlib.Core.Path.{ap}
use Rattle.model.specs.State.{State, state, with_display, with_stored}
use Rattle.model.specs.Rules.{mode_set}
use Rattle.modes.proofs.mode3.Goals as goal

pub returns : goal.returns
unfolding mode_set
returns c =
    ap (λ (st : State). let s = st.settings in state (with_stored (with_display s 1 s.places s.step) 3 s.keys s.patterns) st.cells st.layer st.dots)
    c.set-s.ensures
