-- `place_of`: the copy's place with that number is the settings'.
use mathlib.Core.Path.{refl}
use Rattle.model.specs.Screens.{place_of}
use Rattle.views.proofs.place_of.Goals as goal

pub returns : goal.returns
unfolding place_of
returns c =
    refl
