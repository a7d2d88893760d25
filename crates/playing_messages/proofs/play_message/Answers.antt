-- `play_message` meets its contract: the message call promises what is left, and `told` hands it on.
use Rattle.playing_messages.proofs.Copies.{plays_of}
use Rattle.playing_messages.proofs.play_message.Goals as goal

pub returns : goal.returns
returns g c =
    plays_of c.message-outcome.ensures c.told.ensures
