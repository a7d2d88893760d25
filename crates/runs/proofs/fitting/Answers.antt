-- `fitting` meets its contract: one byte where the window misses the cursor, else as many as the line has room for.
use mathlib.Core.Path.{◌∙◌}
use native.Mathlib.Omega.{arith}
use Rattle.runs.proofs.fitting.Goals as goal

pub returns-then-misses : goal.returns-then-misses
returns-then-misses c =
    let h = c.requires in
    record { some = omega arith; most = h.le_count; room = omega (arith, h.stands.fits); seen = λ k. absurd (omega (arith, k)) }

pub returns-else-misses : goal.returns-else-misses
returns-else-misses c =
    let h = c.requires in
    record { some = omega (arith, h.le_count, c.min.ensures); most = omega (arith, c.min.ensures); room = omega (arith, h.stands.fits, c.min.ensures, c.from.ensures); seen = λ k st e i. c.misses.ensures st e i ∙ c.if-misses.false }
