-- `lay`: after some turns the layer lies over the places before `place`, and the others, which are still to be read, stand as they were.
use mathlib.Core.Path.{◌≡◌}
use Prim.Native.Nat.{◌-◌, ℕ}
use lib.ListN.{get_or}
use Rattle.paint.specs.Shown.{laid}
use Rattle.views.specs.Painted.{painted}
use Rattle.paint.proofs.layer.lay.Given as goal

abbrev pub invariant-loop-place : goal.invariant-loop-place
invariant-loop-place l = l.shown ≡ painted l.first (l.place - l.first) (laid l.layer (λ (p : ℕ). get_or l.initial.shown p 0)) l.initial.shown
