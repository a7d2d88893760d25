-- `put` meets its contract: the cursor placed, then the window tracked as ESC 215 moves it.
use native.Mathlib.Omega.{arith}
use borrow.Author.Rules.{rules}
use Rattle.ground.proofs.Acting.{then_above}
use Rattle.cursor.proofs.Moves.{put_acts}
use Rattle.ground.proofs.Steps.{put_stands}
use Rattle.screen.proofs.put.Goals as goal

pub track_far-requires : goal.track_far-requires
track_far-requires c =
    record { stands = put_stands c.requires.stands (omega arith) (omega arith) (omega arith) (omega arith) c.put_at-next.ensures; layer_of = search rules }

pub returns : goal.returns
returns c cells m =
    then_above (put_acts (record { stands = c.requires.stands; cells_are = m; layer_are = c.requires.layer_of }) _ _ (omega arith) (omega arith) (omega arith) (omega arith) c.put_at-next.ensures) c.track_far.ensures
