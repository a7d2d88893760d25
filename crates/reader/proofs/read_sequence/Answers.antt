-- `reader::read_sequence` meets its contract: a law for each way, in the order of the numbers.
use native.Mathlib.Omega.{arith}
use Rattle.reader.proofs.ReadLaws.{reads_alone, reads_ended, reads_sequence, reads_unlisted}
use Rattle.reader.proofs.read_sequence.Goals as goal

pub returns-then-left-lt2 : goal.returns-then-left-lt2
returns-then-left-lt2 c =
    let p = c.requires in reads_alone _ _ _ _ p.at_in_bounds p.at_value c.if-left-lt2.true

pub returns-then-length-eq0 : goal.returns-then-length-eq0
returns-then-length-eq0 c =
    let p = c.requires in
    reads_unlisted _ _ _ _ p.at_in_bounds p.at_value _ _ c.byte.ensures c.length_of-length.ensures c.if-left-lt2.false c.if-length-eq0.true

pub returns-then-left-length : goal.returns-then-left-length
returns-then-left-length c =
    let p = c.requires in
    reads_ended _ _ _ _ p.at_in_bounds p.at_value _ _ c.byte.ensures c.length_of-length.ensures c.if-left-lt2.false c.if-length-eq0.false _ c.if-left-length.true c.cut_short.ensures

pub returns : goal.returns
returns c =
    let p = c.requires in
    reads_sequence _ _ _ _ p.at_in_bounds p.at_value _ _ c.byte.ensures c.length_of-length.ensures c.if-left-lt2.false c.if-length-eq0.false _ (omega arith) c.if-left-length.false _ c.decode.ensures c.judge.ensures
