-- `settings::layer::select` meets its contract: the layer is filled to its length.
use mathlib.Core.Path.{◌∙◌, ap, refl}
use Prim.Native.Nat.{ℕ}
use lib.ListN.{replicate}
use Rattle.settings.proofs.layer.select.Goals as goal

pub returns : goal.returns
returns c =
    (refl, c.fill.ensures ∙ ap (λ (n : ℕ). replicate n 0) c.told-layer)
