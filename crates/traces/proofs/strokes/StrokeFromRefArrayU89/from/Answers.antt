-- `from`: the kind, the tick's four bytes and the key.
use Rattle.traces.specs.Stepping.{stroke_read}
use Rattle.traces.proofs.Stepping.{tick_read}
use Rattle.traces.proofs.strokes.StrokeFromRefArrayU89.from.Goals as goal

pub returns : goal.returns
unfolding stroke_read
returns c =
    rw (c.kind_at.ensures, c.from_le_bytes.ensures, tick_read c.args.bytes.now)
