-- `draw` meets its contract: in each turn, what is drawn, with what is left to be drawn behind it, is the whole; what a terminal shows then is
-- Seen's law.
use mathlib.Core.Path.{refl, subst, sym}
use native.Mathlib.Omega.{arith}
use Rattle.glass_drawing.specs.Drawing.{strokes}
use Rattle.glass_drawing.specs.Seen.{Redraws}
use Rattle.glass_drawing.proofs.Seen.{redraws}
use Rattle.glass_drawing.proofs.Strokes.{ended, turn}
use Rattle.glass_drawing.proofs.drawing.draw.Goals as goal

pub loop-p-init : goal.loop-p-init
unfolding strokes
loop-p-init c =
    rw c.nothing-drawn.ensures (omega arith, refl)

pub loop-p-preserved : goal.loop-p-preserved
loop-p-preserved c =
    let l = c.loop-p in
    let a = c.args in
    (omega (arith, c.stroke.ensures.1), turn a.old.now a.new.now l.p l.drawn l.invariant.1 (omega arith) c.stroke.ensures.0)

pub returns : goal.returns
returns c =
    let l = c.loop-p in
    let a = c.args in
    let all = ended a.old.now a.new.now l.p l.drawn l.invariant.1 (omega arith) in
    record { bytes_are = all; seen = subst (Redraws a.old.now a.new.now) (sym all) (redraws a.old.now a.new.now) }
