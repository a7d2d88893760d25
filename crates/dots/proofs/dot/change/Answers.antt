-- `change`: its three ways, by what `|` and `^` make of a byte and a weight.
use Rattle.dots.proofs.Changing.{changed_off, changed_on, changed_over, weight_held}
use Rattle.dots.proofs.dot.change.Goals as goal

pub overflow_sub-result : goal.overflow_sub-result
overflow_sub-result c =
    let a = c.args in
    weight_held a.byte a.h c.weight_of-w.ensures

pub returns-then-function-eq1 : goal.returns-then-function-eq1
returns-then-function-eq1 c =
    let a = c.args in
    changed_off a.byte a.h c.weight_of-w.ensures c.if-function-eq1.true

pub returns-then-function-eq2 : goal.returns-then-function-eq2
returns-then-function-eq2 c =
    let a = c.args in
    changed_on a.byte a.h c.weight_of-w.ensures c.if-function-eq2.true

pub returns : goal.returns
returns c =
    let a = c.args in
    changed_over a.byte a.h c.weight_of-w.ensures a.function c.if-function-eq1.false c.if-function-eq2.false
