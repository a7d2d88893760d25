-- What an item does that does not stay on the selected screen: what it asks, and what then stands and is printed.
use Rattle.std.specs.Prelude.{◌≡◌, ℕ, ◌+◌, ◌≤◌, true, cond, List, length, get_or}
use Rattle.model.specs.declared.Item.{Item}
use Rattle.model.specs.declared.Item.TheVariants.{Sequence}
use Rattle.model.specs.declared.Sequence.TheVariants.{Pattern}
use Rattle.model.specs.declared.Settings.{Settings}
use Rattle.model.specs.Bytes.{put}
use Rattle.model.specs.State.{State, state}
use Rattle.model.specs.Sound.{Good}
use Rattle.model.specs.Judging.{legal_item?, limits_of}
use Rattle.model.specs.Rules.{apply_item}
use Rattle.model.specs.Items.{copy_of, printer_bytes}
use Rattle.model.specs.OnScreen.{stays_on_screen?}

-- what an item that does not stay does with the message m; one that stays is done already
unfoldable pub applied : List ℕ → Item → State → State
applied m i st = cond (stays_on_screen? i) st (apply_item (λ o. get_or m o 0) i st)

-- what stands is good, every parameter that is judged is in its range, the eight rows of a pattern lie in the message, and a copy has room
pub record Applying (s : Settings) (i : Item) (m cells layer dots printer : List ℕ) (from : ℕ) : Type 0 where
  pub good : Good (state s cells layer dots)
  pub legal : legal_item? i (limits_of s) ≡ true
  pub rows : (c at : ℕ) → i ≡ Sequence (Pattern c at) → at + 8 ≤ length m
  pub roomy : from + printer_bytes s.mode i ≤ length printer

-- what then stands: settings r, and the stores marked '
pub record Applied (s : Settings) (i : Item) (m : List ℕ) (from : ℕ) (r : Settings) (cells layer dots printer cells' layer' dots' printer' : List ℕ) : Type 0 where
  pub does : state r cells' layer' dots' ≡ applied m i (state s cells layer dots)
  pub prints : printer' ≡ put from (copy_of i (state s cells layer dots)) printer
