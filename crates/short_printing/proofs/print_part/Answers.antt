-- `print_part`: one byte by itself, or those that stay in the line while the window does not miss it; then no step waits.
use mathlib.Core.Path.{◌∙◌, refl}
use native.Mathlib.Omega.{arith}
use lib.Dec.{ltb}
use borrow.Author.Rules.{rules}
use borrow.Author.Tests.{ltb-false}
use Rattle.model.proofs.Tests.{or_false}
use Rattle.short_printing.proofs.Seeing.{part_code, part_line}
use Rattle.short_printing.proofs.print_part.Goals as goal

pub returns-then-count-misses : goal.returns-then-count-misses
returns-then-count-misses c =
    let h = c.requires.at_lt_end in
    part_code h.0 h.1 refl refl c.print_code-one.ensures.0 c.print_code-one.ensures.1

pub print_line-next-requires : goal.print_line-next-requires
print_line-next-requires c =
    let n = c.min-count in
    let h = c.requires in
    let k = or_false (ltb n.result 1) c.misses.result c.if-count-misses.false in
    record {
      ready = h.ready;
      reads = λ st e i. c.misses.ensures st e i ∙ k.1;
      le_count = (ltb-false n.result 1 k.0, (omega (arith, n.ensures, c.from.ensures, h.ready.stands.fits), omega (arith, n.ensures, h.at_lt_end)));
      shown_len = h.shown_len;
    }

pub returns : goal.returns
returns c =
    let n = c.min-count in
    let h = c.requires in
    let k = or_false (ltb n.result 1) c.misses.result c.if-count-misses.false in
    part_line (ltb-false n.result 1 k.0) (omega (arith, n.ensures, h.at_lt_end)) refl refl (search rules) c.print_line-next.ensures.0 (c.print_line-next.ensures.1 c.args.marks.now)
