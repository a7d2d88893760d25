-- `reader::read_item` meets its contract: an ESC is read by `read_sequence`, another byte is an item by itself.
use Rattle.reader.proofs.ReadLaws.{reads_byte}
use Rattle.reader.proofs.read_item.Goals as goal

pub returns : goal.returns
returns c =
    reads_byte _ _ _ _ c.requires.at_in_bounds c.if-first-eq27.false c.one_byte-item.ensures
