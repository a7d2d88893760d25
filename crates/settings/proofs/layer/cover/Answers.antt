-- `settings::layer::cover` meets its contract: the two stores are those of `cover`, at a place below 640, and the settings are returned.
use mathlib.Core.Path.{refl}
use Prim.Native.Nat.{◌*◌, ◌+◌, ◌-◌}
use Rattle.model.specs.Rules.{cover}
use Rattle.settings.proofs.layer.cover.Goals as goal

pub returns : goal.returns
unfolding cover
returns c =
    (refl, λ i. cover ((c.from.ensures i - 1) * 80 + (c.from-2.ensures i - 1)) c.args.code c.args.layer.now)
