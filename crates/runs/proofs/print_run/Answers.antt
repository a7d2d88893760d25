-- `print_run`: the bytes from `at` up to i were printed, part by part.
use native.Mathlib.Omega.{arith}
use borrow.Author.Rules.{rules}
use Rattle.runs.proofs.Runs.{along_all, along_none, along_part}
use Rattle.runs.proofs.print_run.Goals as goal

pub loop-i-init : goal.loop-i-init
loop-i-init c =
    (omega (arith, c.run_end-end.ensures.printing.some), along_none _ c.requires.ready (search rules))

pub print_part-part-requires : goal.print_part-part-requires
print_part-part-requires c =
    let a = c.loop-i.invariant.1.acts in record { ready = a.ready; at_lt_end = search rules }

pub loop-i-preserved : goal.loop-i-preserved
loop-i-preserved c =
    (c.print_part-part.ensures.most, along_part c.loop-i.invariant.1 c.print_part-part.ensures)

pub returns : goal.returns
returns c =
    along_all c.run_end-end.ensures (omega arith) c.loop-i.invariant.1
