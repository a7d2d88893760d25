-- What emptying the layer from the cursor's cell on leaves of it.
use Rattle.std.specs.Prelude.{◌≡◌, ℕ, List}
use Rattle.model.specs.declared.Place.{Place}
use Rattle.ground.specs.declared.Frame.{Frame}
use Rattle.ground.specs.Acts.{Reads}
use Rattle.ground.specs.Here.{shown_here}
use Rattle.ground.specs.Spots.{empty_from}

-- so many places in a row are emptied, from the one on that shows the cursor's cell
pub record Uncovers (f : Frame) (p : Place) (n : ℕ) (layer layer' : List ℕ) : Type 0 where
  pub from : ℕ
  pub shows : Reads shown_here f p from
  pub is : layer' ≡ empty_from from n layer
