-- `window::turn` meets its contract: a top that stays changes nothing, another empties the layer.
use native.Mathlib.Omega.{arith}
use borrow.Author.Rules.{rules}
use Rattle.cursor.proofs.Windows.{topped_same, topped_turns}
use Rattle.cursor.proofs.window.turn.Goals as goal

pub returns-then-top-place : goal.returns-then-top-place
returns-then-top-place c =
    topped_same (search rules) (search rules) c.if-top-place.true

pub returns : goal.returns
returns c =
    topped_turns (search rules) (search rules) (omega arith) (omega arith) (search rules) c.empty.ensures c.top_at.ensures
