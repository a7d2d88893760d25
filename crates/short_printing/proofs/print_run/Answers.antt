-- `print_run`: the bytes from `at` up to i were printed and seen, part by part.
use native.Mathlib.Omega.{arith}
use borrow.Author.Rules.{rules}
use Rattle.short_printing.proofs.Seeing.{seen_all_lem, seen_none, seen_part}
use Rattle.short_printing.proofs.print_run.Goals as goal

pub loop-i-init : goal.loop-i-init
loop-i-init c =
    let h = c.requires in (omega (arith, c.run_end-end.ensures.printing.some), seen_none _ h.ready (search rules) h.shown_len)

pub print_part-part-requires : goal.print_part-part-requires
print_part-part-requires c =
    let a = c.loop-i.invariant.1 in
    record { ready = a.along.acts.ready; shown_len = a.sees.size; at_lt_end = search rules }

pub loop-i-preserved : goal.loop-i-preserved
loop-i-preserved c =
    (c.print_part-part.ensures.part.most, seen_part c.loop-i.invariant.1 c.print_part-part.ensures)

pub returns : goal.returns
returns c =
    seen_all_lem c.run_end-end.ensures (omega arith) c.loop-i.invariant.1
