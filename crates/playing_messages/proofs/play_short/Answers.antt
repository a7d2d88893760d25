-- `play_short` meets its contract: the short call promises what is left, and `told` hands it on.
use Rattle.playing_messages.proofs.Copies.{plays_of}
use Rattle.playing_messages.proofs.play_short.Goals as goal

pub returns : goal.returns
returns g c =
    plays_of c.message_short-outcome.ensures.0 c.told.ensures
