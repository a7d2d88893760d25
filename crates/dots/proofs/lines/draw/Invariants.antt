-- `draw`: with dot k reached, dots 0 to k are drawn. The loop starts behind dot 0, so its invariant speaks of every store that dot 0 made into this one.
use mathlib.Core.Path.{◌≡◌}
use Prim.Native.Nat.{◌+◌, ℕ}
use mathlib.Core.List.{List}
use lib.ListN.{length}
use Rattle.model.specs.Strokes.{drawn}
use Rattle.dots.specs.Walk.{Carried}
use Rattle.dots.proofs.lines.draw.Given as goal

abbrev pub invariant-loop : goal.invariant-loop
invariant-loop l = (l.at.k ≡ l.counter) × ((length l.dots ≡ 3840) × ((Carried l.from l.to l.flat l.n l.d l.at.k l.at.row l.at.h l.at.rest) × ((ys : List ℕ) → l.initial.dots ≡ drawn l.function l.mask l.from l.to ys 1 → l.dots ≡ drawn l.function l.mask l.from l.to ys (l.at.k + 1))))
