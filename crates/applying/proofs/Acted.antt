-- Items that are no sequences change no settings and print nothing: a printed byte and a code are done already, and a refusal does nothing.
use mathlib.Core.Path.{◌≡◌, refl}
use Prim.Native.Nat.{ℕ}
use mathlib.Core.List.{List, [], ◌∷◌}
use denote.Enum.Declared.{tag_of}
use types.Run.{OneOf, miss}
use Rattle.model.specs.declared.Item.{Item}
use Rattle.model.specs.declared.Item.TheVariants.{Control, Printed, Refused, Sequence}
use Rattle.model.specs.State.{State}
use Rattle.model.specs.Rules.{apply_item}
use Rattle.model.specs.Items.{copy_of}
use Rattle.model.specs.contracts.Item.{the_type}
use Rattle.applying.specs.Applying.{applied}

-- the variants of an item, by their position, without the sequence
abbrev others : List ℕ
others = 0 ∷ 1 ∷ 3 ∷ []

pub no_sequence : (m : List ℕ) (i : Item) (st : State) → OneOf others (tag_of the_type i) → (applied m i st ≡ st) × (copy_of i st ≡ [])
unfolding applied apply_item
no_sequence m (Printed b) st o = (refl, refl)
no_sequence m (Control c) st o = (refl, refl)
no_sequence m (Sequence q) st o = absurd (miss others 2 tt o)
no_sequence m (Refused n p) st o = (refl, refl)
