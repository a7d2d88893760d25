-- `play_pack` meets its contract: the pack call promises what is left, and `summed` hands it on.
use Rattle.playing_messages.proofs.Copies.{plays_of}
use Rattle.playing_messages.proofs.play_pack.Goals as goal

pub returns : goal.returns
returns g c =
    plays_of c.pack-packed.ensures c.summed.ensures
