-- `placed` meets its contract: the copy's place with that number is the new one, the other the settings'.
use mathlib.Core.Path.{refl}
use Rattle.applying.proofs.places.placed.Goals as goal

pub returns : goal.returns
returns c =
    refl
