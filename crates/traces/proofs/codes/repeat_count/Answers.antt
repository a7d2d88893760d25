-- `repeat_count`: by the setting, the repeats below the end, or none.
use mathlib.Core.Path.{◌∙◌, sym}
use native.Mathlib.Omega.{arith}
use Rattle.traces.proofs.Counting.{repeat_off, repeat_on}
use Rattle.traces.proofs.codes.repeat_count.Goals as goal

pub returns-then-repeating-eq1 : goal.returns-then-repeating-eq1
returns-then-repeating-eq1 c =
    let a = c.args in
    (c.count_below.ensures.0 ∙ rw c.first_repeat-first.ensures.0 (sym (repeat_on a.repeating.keys a.tick a.end c.if-repeating-eq1.true)), c.count_below.ensures.1)

pub returns-else-repeating-eq1 : goal.returns-else-repeating-eq1
returns-else-repeating-eq1 c = let a =
    c.args in (sym (repeat_off a.repeating.keys a.tick a.end c.if-repeating-eq1.false), omega arith)
