-- `obey_sequence` meets its contract: each arm obeys the sequence that it names by the function that it calls, and the last changes nothing. The five that turn the
-- window are idle in mode 3; there the top has one place.
use mathlib.Core.Path.{refl}
use native.Mathlib.Omega.{arith}
use borrow.Author.Rules.{rules}
use Rattle.model.specs.Checks.{member}
use Rattle.model.specs.Rules.{obeyed}
use Rattle.model.specs.OnScreen.{on_screen?}
use Rattle.model.proofs.Cases.{ranged}
use Rattle.ground.proofs.Carried.{unmarked_acts}
use Rattle.screen.proofs.Sequences.{clears, idles, never_idle, obeys, off_screen, turns}
use Rattle.cursor.proofs.Windows.{first_top, greatest_top}
use borrow.Enum.Refused.{opened}
use Rattle.screen.proofs.obey_sequence.Goals as goal

pub put-requires : goal.put-requires
unfolding member obeyed on_screen?
put-requires c =
    record { stands = c.requires.ready.stands; layer_of = c.requires.ready.layer_are; in_ranges = ranged _ c.requires.frame_value c.in-Put.is (never_idle 61 refl refl _) }

pub shift-requires : goal.shift-requires
unfolding member obeyed on_screen?
shift-requires c =
    let e = ranged _ c.requires.frame_value c.in-LinesUp.is (never_idle 144 refl refl _) in record { ready = c.requires.ready; le_count = (e.1.0.0.0, e.1.0.1) }

pub shift-requires-in-LinesDown : goal.shift-requires-in-LinesDown
unfolding member obeyed on_screen?
shift-requires-in-LinesDown c =
    let e = ranged _ c.requires.frame_value c.in-LinesDown.is (never_idle 145 refl refl _) in record { ready = c.requires.ready; le_count = (e.1.0.0.0, e.1.0.1) }

pub turn-requires-in-WindowTop : goal.turn-requires-in-WindowTop
unfolding member obeyed on_screen?
turn-requires-in-WindowTop c =
    let h = c.requires.ready in record { stands = h.stands; le_top = (omega arith, omega arith); layer_of = h.layer_are }

pub turn-requires-in-WindowBottom : goal.turn-requires-in-WindowBottom
unfolding member obeyed on_screen?
turn-requires-in-WindowBottom c =
    let h = c.requires.ready in record { stands = h.stands; le_top = (omega arith, omega arith); layer_of = h.layer_are }

pub returns-in-PrintCode : goal.returns-in-PrintCode
unfolding member obeyed on_screen?
returns-in-PrintCode c =
    obeys c.in-PrintCode.is refl refl refl (λ m. c.print.ensures)

pub returns-in-Clear : goal.returns-in-Clear
unfolding member obeyed on_screen?
returns-in-Clear c =
    clears c.in-Clear.is refl refl refl (λ m. c.clear.ensures)

pub returns-in-Put : goal.returns-in-Put
unfolding member obeyed on_screen?
returns-in-Put c =
    obeys c.in-Put.is refl refl refl (λ m. unmarked_acts (search rules) (c.put.ensures _ c.requires.ready.cells_are))

pub returns-in-EraseLine : goal.returns-in-EraseLine
unfolding member obeyed on_screen?
returns-in-EraseLine c =
    obeys c.in-EraseLine.is refl refl refl (λ m. c.erase_line.ensures)

pub returns-in-EraseRest : goal.returns-in-EraseRest
unfolding member obeyed on_screen?
returns-in-EraseRest c =
    obeys c.in-EraseRest.is refl refl refl (λ m. c.erase_rest.ensures)

pub returns-in-LinesUp : goal.returns-in-LinesUp
unfolding member obeyed on_screen?
returns-in-LinesUp c =
    obeys c.in-LinesUp.is refl refl refl (λ m. c.shift.ensures)

pub returns-in-LinesDown : goal.returns-in-LinesDown
unfolding member obeyed on_screen?
returns-in-LinesDown c =
    obeys c.in-LinesDown.is refl refl refl (λ m. c.shift-in-LinesDown.ensures)

pub returns-in-WindowUp : goal.returns-in-WindowUp
unfolding member obeyed on_screen?
returns-in-WindowUp c =
    turns c.in-WindowUp.is refl refl (λ n st. refl) c.requires.ready (search rules) c.less.ensures c.turn.ensures

pub returns-in-WindowDown : goal.returns-in-WindowDown
unfolding member obeyed on_screen?
returns-in-WindowDown c =
    turns c.in-WindowDown.is refl refl (λ n st. refl) c.requires.ready (search rules) c.more.ensures c.turn-in-WindowDown.ensures

pub returns-in-WindowTop : goal.returns-in-WindowTop
unfolding member obeyed on_screen?
returns-in-WindowTop c =
    turns c.in-WindowTop.is refl refl (λ n st. refl) c.requires.ready (search rules) (first_top c.requires.ready.stands) c.turn-in-WindowTop.ensures

pub returns-in-WindowBottom : goal.returns-in-WindowBottom
unfolding member obeyed on_screen?
returns-in-WindowBottom c =
    turns c.in-WindowBottom.is refl refl (λ n st. refl) c.requires.ready (search rules) (greatest_top c.requires.ready.stands c.most.ensures) c.turn-in-WindowBottom.ensures

pub returns-in-WindowCursor : goal.returns-in-WindowCursor
unfolding member obeyed on_screen?
returns-in-WindowCursor c =
    turns c.in-WindowCursor.is refl refl (λ n st. refl) c.requires.ready (search rules) c.centre.ensures c.turn-in-WindowCursor.ensures

pub returns-in_default : goal.returns-in_default
unfolding member obeyed on_screen?
returns-in_default c =
    idles (off_screen c.args.q (opened c.in_default.in_default-own.keys13))
