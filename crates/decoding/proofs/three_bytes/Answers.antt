-- `decoding::three_bytes` meets its contract: arm by arm, by the row that the byte picks.
use Rattle.model.specs.Sequences.{find}
use Rattle.decoding.specs.Decoding.{kind_from}
use Rattle.decoding.proofs.DecodingLaws.{handed_on}
use Rattle.decoding.proofs.three_bytes.Goals as goal

pub returns-in-37 : goal.returns-in-37
unfolding kind_from find
returns-in-37 c =
    simp (c.in-37.is, c.byte-n.ensures)

pub returns-in-67 : goal.returns-in-67
unfolding kind_from find
returns-in-67 c =
    simp (c.in-67.is, c.byte-n.ensures)

pub returns-in-148 : goal.returns-in-148
unfolding kind_from find
returns-in-148 c =
    simp (c.in-148.is, c.byte-n.ensures)

pub returns-in-149 : goal.returns-in-149
unfolding kind_from find
returns-in-149 c =
    simp (c.in-149.is, c.byte-n.ensures)

pub returns-in-209 : goal.returns-in-209
unfolding kind_from find
returns-in-209 c =
    simp (c.in-209.is, c.byte-n.ensures)

pub returns-in-211 : goal.returns-in-211
unfolding kind_from find
returns-in-211 c =
    simp (c.in-211.is, c.byte-n.ensures)

pub returns-in-214 : goal.returns-in-214
unfolding kind_from find
returns-in-214 c =
    simp (c.in-214.is, c.byte-n.ensures)

pub returns-in-240 : goal.returns-in-240
unfolding kind_from find
returns-in-240 c =
    simp (c.in-240.is, c.byte-n.ensures)

pub returns-in-241 : goal.returns-in-241
unfolding kind_from find
returns-in-241 c =
    simp (c.in-241.is, c.byte-n.ensures)

pub returns-in-242 : goal.returns-in-242
unfolding kind_from find
returns-in-242 c =
    simp (c.in-242.is, c.byte-n.ensures)

pub returns-in-247 : goal.returns-in-247
unfolding kind_from find
returns-in-247 c =
    simp (c.in-247.is, c.byte-n.ensures)

pub returns-in_default : goal.returns-in_default
unfolding kind_from find
returns-in_default c =
    rw (handed_on 22 11 _ c.in_default.in_default-own.rest) c.four_or_five_bytes.ensures
