-- `modes::set` meets its contract: the stores are filled to their lengths, which are those of `mode_set`.
use mathlib.Core.Path.{◌∙◌, ap, refl}
use Prim.Native.Nat.{ℕ}
use lib.ListN.{replicate}
use Rattle.model.specs.Rules.{mode_set}
use Rattle.modes.proofs.Parts.{stands}
use Rattle.modes.proofs.set.Goals as goal

pub returns : goal.returns
unfolding mode_set
returns c =
    stands refl (c.fill.ensures ∙ ap (λ (n : ℕ). replicate n 32) c.told-cells) (c.fill-2.ensures ∙ ap (λ (n : ℕ). replicate n 0) c.told-layer)
    (c.wipe.ensures ∙ ap (λ (n : ℕ). replicate n 0) c.told-dots)
