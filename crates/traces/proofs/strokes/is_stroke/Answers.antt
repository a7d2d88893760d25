-- `is_stroke` is the definition.
use Rattle.traces.specs.Stepping.{stroke_bytes?}
use Rattle.traces.proofs.strokes.is_stroke.Goals as goal

pub returns : goal.returns
unfolding stroke_bytes?
returns c =
    rw (c.kind_at-kind.ensures, c.length_at-length.ensures)
