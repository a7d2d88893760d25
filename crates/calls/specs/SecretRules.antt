-- Document 02, P8, of the rules by themselves: what two runs in secret mode need not have in common is the bytes of cells, layer and key texts (Hidden in the crate `model`), and no rule
-- looks at these to work out anything else. So no setting, no dot, no judgement and no painted place depends on them, nor, while secret is on, a place
-- of the picture or a printed copy. What follows for lists of calls is said in the crate `secrecy`.
use Rattle.std.specs.Prelude.{◌≡◌, ℕ, false, List, length}
use Rattle.model.specs.declared.Item.{Item}
use Rattle.model.specs.State.{State}
use Rattle.model.specs.Screens.{here}
use Rattle.model.specs.Sound.{sound?}
use Rattle.model.specs.Picture.{picture, copied}
use Rattle.model.specs.Judging.{limits_of}
use Rattle.model.specs.Rules.{printed, apply_item}
use Rattle.model.specs.Items.{lined, texted}
use Rattle.calls.specs.Repaint.{lifts?, place_by}
use Rattle.model.specs.Hidden.{Hidden, reveals}

-- the claim
pub record Blind (a b : State) : Type 0 where
  -- no setting and no dot: an item that is no 125, with the same bytes on both sides, keeps what is equal
  pub items : (m : ℕ → ℕ) (i : Item) → reveals i ≡ false → Hidden (apply_item m i a) (apply_item m i b)
  -- a printed character too, whatever its value on either side
  pub characters : (c d : ℕ) → Hidden (printed c a) (printed d b)
  -- and a line that is left, and a key's text, of as many codes
  pub lines : (w : List ℕ) (n : ℕ) → Hidden (lined w n a) (lined w n b)
  pub texts : (k : ℕ) (x y : List ℕ) → length x ≡ length y → Hidden (texted k x a) (texted k y b)
  -- no judgement: what parameters are judged by, and whether the settings are sound
  pub limits : limits_of a.settings ≡ limits_of b.settings
  pub sound : sound? a.settings ≡ sound? b.settings
  -- no place of the picture, and no copy
  pub pictures : picture a ≡ picture b
  pub copies : copied a ≡ copied b
  -- no painted place (P12): whether an item lifts, where what it prints is shown, and the window's top
  pub lifts : (i : Item) → lifts? i a ≡ lifts? i b
  pub places : (i : Item) → place_by i a ≡ place_by i b
  pub top : (here a).top ≡ (here b).top

-- of any two states
abbrev pub Blindness : Type 0
Blindness = (a b : State) → Hidden a b → Blind a b
