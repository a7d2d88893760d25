-- `print_part` meets its contract: all bytes, where they stay in the line while the window does not miss it, else those that `print_line` takes.
use mathlib.Core.Path.{◌∙◌, refl}
use Prim.Native.Nat.{◌-◌}
use native.Mathlib.Omega.{arith}
use lib.Dec.{ltb}
use borrow.Author.Rules.{rules}
use borrow.Author.Tests.{ltb-false}
use Rattle.model.proofs.Tests.{or_false}
use Rattle.runs.proofs.Runs.{part_many}
use Rattle.runs.proofs.print_part.Goals as goal

pub overflow_sub-count : goal.overflow_sub-count
overflow_sub-count c =
    search (rules, c.requires.at_lt_end)

pub print_chunk-next-requires : goal.print_chunk-next-requires
print_chunk-next-requires c =
    let h = c.requires in
    let n = c.args.end - c.args.at in
    let k = or_false (ltb c.from.result n) c.misses.result c.if-from-count.false in
    let room = ltb-false c.from.result n k.0 in
    record { ready = h.ready; reads = (λ st e i. c.misses.ensures st e i ∙ k.1); le_count = (omega (arith, h.at_lt_end), (omega (arith, room, c.from.ensures, h.ready.stands.fits), omega (arith, h.at_lt_end))) }

pub returns-then-from-count : goal.returns-then-from-count
returns-then-from-count c =
    c.print_line.ensures

pub returns-else-from-count : goal.returns-else-from-count
returns-else-from-count c =
    let h = c.requires in
    part_many (search rules) h.at_lt_end.0 refl c.print_chunk-next.ensures
