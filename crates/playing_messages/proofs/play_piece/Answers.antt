-- `play_piece` meets its contract: the piece call promises what is left, and `told` hands it on.
use Rattle.playing_messages.proofs.Copies.{plays_of}
use Rattle.playing_messages.proofs.play_piece.Goals as goal

pub returns : goal.returns
returns g c =
    plays_of c.piece-outcome.ensures c.told.ensures
