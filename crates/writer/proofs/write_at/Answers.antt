-- `writer::write_at` meets its contract: the reader takes all bytes of a named sequence. The rows are eight by the parameter's type.
use Rattle.writer.proofs.Laws.{promised_as, wanted-named}
use Rattle.writer.proofs.write_at.Goals as goal

pub returns : goal.returns
returns c =
    promised_as (wanted-named c.args.settings c.args.sequence c.args.rows _ (search c.well_formed.1.1.1.1) c.spell.ensures) c.write_spelled.ensures
