-- `decoding::four_or_five_bytes` meets its contract: arm by arm, by the row that the byte picks.
use Rattle.model.specs.Sequences.{find}
use Rattle.decoding.specs.Decoding.{kind_from}
use Rattle.decoding.proofs.DecodingLaws.{handed_on}
use Rattle.decoding.proofs.four_or_five_bytes.Goals as goal

pub returns-in-61 : goal.returns-in-61
unfolding kind_from find
returns-in-61 c =
    simp (c.in-61.is, c.byte.ensures, c.byte-in-61.ensures)

pub returns-in-144 : goal.returns-in-144
unfolding kind_from find
returns-in-144 c =
    simp (c.in-144.is, c.byte-in-144.ensures, c.byte-in-144-2.ensures)

pub returns-in-145 : goal.returns-in-145
unfolding kind_from find
returns-in-145 c =
    simp (c.in-145.is, c.byte-in-145.ensures, c.byte-in-145-2.ensures)

pub returns-in-210 : goal.returns-in-210
unfolding kind_from find
returns-in-210 c =
    simp (c.in-210.is, c.byte-in-210.ensures, c.byte-in-210-2.ensures, c.byte-in-210-3.ensures)

pub returns-in_default : goal.returns-in_default
unfolding kind_from find
returns-in_default c =
    rw (handed_on 33 4 _ c.in_default.in_default-own.rest) c.six_bytes.ensures
