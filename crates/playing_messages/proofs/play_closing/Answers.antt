-- `play_closing` meets its contract: the closing call promises what is left, and `told` hands it on.
use Rattle.playing_messages.proofs.Copies.{plays_of}
use Rattle.playing_messages.proofs.play_closing.Goals as goal

pub returns : goal.returns
returns g c =
    plays_of c.closing-outcome.ensures c.told.ensures
