-- `modes::display::hold` meets its contract: lines − (H − 1) is lines + 1 − H.
use mathlib.Core.Path.{◌∙◌, ◌≡◌, ap}
use Prim.Native.Nat.{◌+◌, ◌-◌, min, ℕ}
use native.Mathlib.Omega.{arith}
use Rattle.model.specs.State.{top_at}
use Rattle.modes.proofs.display.hold.Goals as goal

pub returns : goal.returns
returns c =
    let a = c.args in
    let last : a.lines - (a.height - 1) ≡ a.lines + 1 - a.height = omega arith in
    ap (λ (t : ℕ). top_at t a.place) (c.min.ensures ∙ ap (min a.place.top) last)
