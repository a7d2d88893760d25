-- `decoding::mode` meets its contract: arm by arm, by the row that the mode byte picks.
use mathlib.Core.List.{[]}
use Rattle.model.specs.Sequences.{find, mode_row_of, mode_rows, refusal}
use Rattle.model.proofs.Arms.{find_past}
use Rattle.decoding.proofs.mode.Goals as goal

pub returns-in-0 : goal.returns-in-0
unfolding mode_row_of find
returns-in-0 c o =
    simp (← c.byte-kind.ensures, c.in-0.is, c.byte.ensures, c.byte-in-0.ensures)

pub returns-in-1 : goal.returns-in-1
unfolding mode_row_of find
returns-in-1 c o =
    simp (← c.byte-kind.ensures, c.in-1.is, c.byte-in-1.ensures)

pub returns-in-2 : goal.returns-in-2
unfolding mode_row_of find
returns-in-2 c o =
    simp (← c.byte-kind.ensures, c.in-2.is, c.byte-in-2.ensures, c.byte-in-2-2.ensures, c.byte-in-2-3.ensures)

pub returns-in-3 : goal.returns-in-3
unfolding mode_row_of find
returns-in-3 c o =
    simp (← c.byte-kind.ensures, c.in-3.is)

pub returns-in_default : goal.returns-in_default
unfolding mode_row_of find
returns-in_default c o =
    simp (← c.byte-kind.ensures, find_past (Unit {0}) (refusal 0 3 11 1) mode_rows [] _ c.in_default.in_default-own.rest)
