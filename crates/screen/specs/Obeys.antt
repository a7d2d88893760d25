-- What the function that obeys the sequences of the selected screen promises of every sequence.
use Rattle.std.specs.Prelude.{◌≡◌, ℕ, true, false, List}
use Rattle.model.specs.declared.Place.{Place}
use Rattle.model.specs.declared.Item.TheVariants.{Sequence}
use Rattle.model.specs.declared.Sequence.{Sequence as Seq}
use Rattle.model.specs.Rules.{apply_item}
use Rattle.model.specs.OnScreen.{on_screen?}
use Rattle.ground.specs.declared.Frame.{Frame}
use Rattle.ground.specs.Acts.{ActsWith, except_dots}

-- one of these does what the model's rule for it does, whatever the message, the dots set aside (nothing, where it is idle in the mode: P11); any
-- other leaves all as it was
pub record Obeys (q : Seq) (f : Frame) (p r : Place) (cells layer marks cells' layer' marks' : List ℕ) : Type 0 where
  pub on : on_screen? q ≡ true → (m : ℕ → ℕ) → ActsWith (except_dots (apply_item m (Sequence q))) f p r cells layer marks cells' layer' marks'
  pub off : on_screen? q ≡ false → (r ≡ p) × (cells' ≡ cells) × (layer' ≡ layer) × (marks' ≡ marks)
