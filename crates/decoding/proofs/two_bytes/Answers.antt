-- `decoding::two_bytes` meets its contract: arm by arm, by the row that the byte picks.
use Rattle.model.specs.Sequences.{find}
use Rattle.decoding.specs.Decoding.{kind_from}
use Rattle.decoding.proofs.DecodingLaws.{handed_on}
use Rattle.decoding.proofs.two_bytes.Goals as goal

pub returns-in-42 : goal.returns-in-42
unfolding kind_from find
returns-in-42 c =
    rw c.in-42.is

pub returns-in-50 : goal.returns-in-50
unfolding kind_from find
returns-in-50 c =
    rw c.in-50.is

pub returns-in-51 : goal.returns-in-51
unfolding kind_from find
returns-in-51 c =
    rw c.in-51.is

pub returns-in-80 : goal.returns-in-80
unfolding kind_from find
returns-in-80 c =
    rw c.in-80.is

pub returns-in-84 : goal.returns-in-84
unfolding kind_from find
returns-in-84 c =
    rw c.in-84.is

pub returns-in-89 : goal.returns-in-89
unfolding kind_from find
returns-in-89 c =
    rw c.in-89.is

pub returns-in-123 : goal.returns-in-123
unfolding kind_from find
returns-in-123 c =
    rw c.in-123.is

pub returns-in-125 : goal.returns-in-125
unfolding kind_from find
returns-in-125 c =
    rw c.in-125.is

pub returns-in-150 : goal.returns-in-150
unfolding kind_from find
returns-in-150 c =
    rw c.in-150.is

pub returns-in-151 : goal.returns-in-151
unfolding kind_from find
returns-in-151 c =
    rw c.in-151.is

pub returns-in-160 : goal.returns-in-160
unfolding kind_from find
returns-in-160 c =
    rw c.in-160.is

pub returns-in-161 : goal.returns-in-161
unfolding kind_from find
returns-in-161 c =
    rw c.in-161.is

pub returns-in-162 : goal.returns-in-162
unfolding kind_from find
returns-in-162 c =
    rw c.in-162.is

pub returns-in-163 : goal.returns-in-163
unfolding kind_from find
returns-in-163 c =
    rw c.in-163.is

pub returns-in-164 : goal.returns-in-164
unfolding kind_from find
returns-in-164 c =
    rw c.in-164.is

pub returns-in-165 : goal.returns-in-165
unfolding kind_from find
returns-in-165 c =
    rw c.in-165.is

pub returns-in-176 : goal.returns-in-176
unfolding kind_from find
returns-in-176 c =
    rw c.in-176.is

pub returns-in-177 : goal.returns-in-177
unfolding kind_from find
returns-in-177 c =
    rw c.in-177.is

pub returns-in-212 : goal.returns-in-212
unfolding kind_from find
returns-in-212 c =
    rw c.in-212.is

pub returns-in-213 : goal.returns-in-213
unfolding kind_from find
returns-in-213 c =
    rw c.in-213.is

pub returns-in-215 : goal.returns-in-215
unfolding kind_from find
returns-in-215 c =
    rw c.in-215.is

pub returns-in-246 : goal.returns-in-246
unfolding kind_from find
returns-in-246 c =
    rw c.in-246.is

pub returns-in_default : goal.returns-in_default
unfolding kind_from find
returns-in_default c =
    rw (handed_on 0 22 _ c.in_default.in_default-own.rest) c.three_bytes.ensures
