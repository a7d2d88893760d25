-- What reading one item promises.
use Rattle.std.specs.Prelude.{◌≡◌, ℕ, ◌+◌, ◌≤◌, true, false, List, length, ltb}
use Rattle.model.specs.declared.Limits.{Limits}
use Rattle.model.specs.declared.Item.{Item}
use Rattle.model.specs.declared.Item.TheVariants.{Control, Printed, Sequence}
use Rattle.model.specs.declared.Sequence.TheVariants.{Pattern}
use Rattle.model.specs.Reading.{item_of, own_bytes}
use Rattle.model.specs.Judging.{judged, legal_item?}
use Rattle.reader.specs.declared.Reading.{Reading}

-- "Bytes 32 to 255 print", codes are below 32: a byte that is no ESC is an item by itself
abbrev pub by_itself : ℕ → Item
by_itself b = elim (ltb b 32) [ true ↦ Control b | false ↦ Printed b ]

-- the item at an offset of a message m, read under the limits s with that much printer room
pub record ReadAt (m : List ℕ) (at : ℕ) (s : Limits) (room : ℕ) (r : Reading) : Type 0 where
  pub item_is : r.item ≡ judged (item_of at (own_bytes m at)) s room
  pub length_is : r.length ≡ length (own_bytes m at)
  -- it has at least a byte, and none past the end
  pub some : 1 ≤ r.length
  pub inside : at + r.length ≤ length m
  -- its parameters are in their ranges
  pub legal : legal_item? r.item s ≡ true
  -- the eight rows of a pattern lie in the message
  pub rows_inside : (c o : ℕ) → r.item ≡ Sequence (Pattern c o) → o + 8 ≤ length m
