-- By the test; the part that is handed back is the buffer's own.
use mathlib.Core.Path.{sym}
use lib.Seq.{length-take-le}
use borrow.Author.Tests.{le-leb, lt-leb}
use Rattle.calls.specs.Opening.{first_part}
use Rattle.terminal.proofs.printed.Goals as goal

pub slice_bounds-result-end : goal.slice_bounds-result-end
slice_bounds-result-end c =
    sym (length-take-le _ _ c.if-count-buffer.true)

pub returns-then-count-buffer : goal.returns-then-count-buffer
unfolding first_part
returns-then-count-buffer c =
    record { part_is = rw (le-leb _ _ c.if-count-buffer.true) }

pub returns-else-count-buffer : goal.returns-else-count-buffer
unfolding first_part
returns-else-count-buffer c =
    record { part_is = rw (lt-leb _ _ c.if-count-buffer.false) }
