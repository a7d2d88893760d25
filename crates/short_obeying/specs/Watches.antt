-- What an item of a short message (document 02, P12) leaves of the shown screen: whether it is wide, and the character that it paints.
use Rattle.std.specs.Prelude.{◌≡◌, ℕ, ◌-◌, Bool, true, false, not, ◌||◌, List, drop, length, set, take, eqb}
use Rattle.model.specs.declared.Item.{Item}
use Rattle.model.specs.declared.Item.TheVariants.{Control, Printed, Refused, Sequence}
use Rattle.model.specs.declared.Place.{Place}
use Rattle.model.specs.declared.Sequence.TheVariants.{PrintCode}
use Rattle.model.specs.declared.Settings.{Settings}
use Rattle.model.specs.State.{State, state}
use Rattle.model.specs.Screens.{here, place_of}
use Rattle.model.specs.Rules.{apply_item}
use Rattle.model.specs.Sequences.{code_of}
use Rattle.calls.specs.Repaint.{calm?, lifts?, print_place}
use Rattle.ground.specs.declared.Frame.{Frame}
use Rattle.ground.specs.Frame.{Framed}
use Rattle.obeying.specs.Obeying.{printed?}
use Rattle.short_printing.specs.declared.Seen.{Seen}
use Rattle.short_printing.specs.Seen.{Sees, veiled}

-- an item is wide, read in a message (its bytes by offset)
unfoldable pub wide_item : (ℕ → ℕ) → Item → State → Bool
wide_item n i st = not (calm? i) || (lifts? i st || not (eqb (here (apply_item n i st)).top (here st).top))

-- it prints a character
abbrev pub printing? : Item → Bool
printing? (Printed c) = true
printing? (Control c) = false
printing? (Sequence q) = eqb (code_of q) 37
printing? (Refused n p) = false

-- what an item that is no printed byte paints, of any settings with that frame and these marks: an ESC 37 its character, any other nothing
pub data Inks (i : Item) (f : Frame) (p : Place) (secret : ℕ) (cells layer marks shown shown' : List ℕ) : Type 0 where
  character : (c : ℕ) → i ≡ Sequence (PrintCode c)
      → ((s : Settings) (dots : List ℕ) → Framed s f → place_of s s.selected ≡ p → s.marks ≡ marks → shown' ≡ set shown (print_place (state s cells layer dots)) (veiled secret c)) → Inks i f p secret cells layer marks shown shown'
  none : printing? i ≡ false → shown' ≡ shown → Inks i f p secret cells layer marks shown shown'

-- and whether it is wide
pub record SeesItem (i : Item) (f : Frame) (p : Place) (secret : ℕ) (wide : Bool) (cells layer marks shown shown' : List ℕ) : Type 0 where
  pub wide_is : (n : ℕ → ℕ) (s : Settings) (dots : List ℕ) → Framed s f → place_of s s.selected ≡ p → s.marks ≡ marks → wide ≡ wide_item n i (state s cells layer dots)
  pub inks : Inks i f p secret cells layer marks shown shown'
  pub size : length shown' ≡ 640

-- an item at an offset of the message m: the run that a printed byte begins, or the item by itself
pub record Watches (m : List ℕ) (at : ℕ) (i : Item) (f : Frame) (p : Place) (secret : ℕ) (r : Seen) (cells layer marks shown shown' : List ℕ) : Type 0 where
  pub run : printed? i ≡ true → Sees (take (r.at - at) (drop at m)) f p secret r.wide cells layer marks shown shown'
  pub one : printed? i ≡ false → SeesItem i f p secret r.wide cells layer marks shown shown'
