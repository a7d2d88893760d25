-- `decoding::six_bytes` meets its contract: arm by arm, by the row that the byte picks.
use Rattle.model.specs.Sequences.{find}
use Rattle.decoding.specs.Decoding.{kind_from}
use Rattle.decoding.proofs.DecodingLaws.{handed_on}
use Rattle.decoding.proofs.six_bytes.Goals as goal

pub returns-in-199 : goal.returns-in-199
unfolding kind_from find
returns-in-199 c =
    simp (c.in-199.is, c.byte-a.ensures, c.byte-b.ensures, c.byte-c.ensures, c.byte-d.ensures)

pub returns-in-243 : goal.returns-in-243
unfolding kind_from find
returns-in-243 c =
    simp (c.in-243.is, c.byte-a.ensures, c.byte-b.ensures, c.byte-c.ensures, c.byte-d.ensures)

pub returns-in-244 : goal.returns-in-244
unfolding kind_from find
returns-in-244 c =
    simp (c.in-244.is, c.byte-a.ensures, c.byte-b.ensures, c.byte-c.ensures, c.byte-d.ensures)

pub returns-in-245 : goal.returns-in-245
unfolding kind_from find
returns-in-245 c =
    simp (c.in-245.is, c.byte-a.ensures, c.byte-b.ensures, c.byte-c.ensures, c.byte-d.ensures)

pub returns-in_default : goal.returns-in_default
unfolding kind_from find
returns-in_default c =
    rw (handed_on 37 4 _ c.in_default.in_default-own.rest) c.longest.ensures
