-- `draw`: with dot k reached, dots 0 to k are drawn. The loop starts behind dot 0, so its invariant speaks of every store that dot 0 made into this one.
use mathlib.Core.Path.{◌∙◌, ◌≡◌}
use Prim.Native.Nat.{◌≤◌}
use native.Mathlib.Omega.{arith}
use borrow.Author.Rules.{rules}
use Rattle.dots.proofs.Drawing.{drawn_all, drawn_more, drawn_none}
use Rattle.dots.proofs.Walking.{carried_byte, carried_dot, carried_start}
use Rattle.dots.proofs.lines.draw.Goals as goal

pub loop-init : goal.loop-init
loop-init c =
    (omega arith, (search rules, (carried_start c.requires.measured.0 c.requires.measured.1.0 c.requires.measured.1.1, λ l e. e)))

pub next-at-requires : goal.next-at-requires
next-at-requires c =
    record { measured = c.requires.measured; carried = (c.loop.invariant.1.1.0, omega (arith, c.loop-test.true)) }

pub step-requires-in-loop : goal.step-requires-in-loop
step-requires-in-loop c =
    let byte = carried_byte c.requires.measured.0 c.next-at.ensures.1 c.requires.measured.1.0 c.requires.measured.1.1 (omega (arith, c.next-at.ensures.0, c.loop-test.true)) in
    (byte, search rules)

pub loop-preserved : goal.loop-preserved
loop-preserved c =
    let a = c.args in
    let here = c.next-at.ensures in
    let few : c.next-at.result.k ≤ a.n = omega (arith, here.0, c.loop.invariant.0, c.loop-test.true) in (
      omega (arith, here.0, c.loop.invariant.0),
      (
        search rules,
        (
          here.1,
          λ l e. drawn_more a.function a.mask a.from a.to l c.next-at.result.k (rw here.0 (c.loop.invariant.1.1.1 l e)) (carried_dot c.requires.measured.0 here.1 few) c.step-in-loop.ensures,
        ),
      ),
    )

pub returns : goal.returns
returns c =
    let a = c.args in
    let m = c.requires.measured.0 in
    let start = carried_dot m (carried_start m c.requires.measured.1.0 c.requires.measured.1.1) (omega arith) in
    let first = drawn_more a.function a.mask a.from a.to a.dots.now 0 (drawn_none _ _ _ _ _) start c.step.ensures in
    let end : c.loop.at.k ≡ a.n = omega (arith, c.loop.invariant.0, c.loop-test.false) in
    c.loop.invariant.1.1.1 a.dots.now first ∙ drawn_all a.function a.mask a.from a.to a.dots.now c.loop.at.k (end ∙ m.long)
