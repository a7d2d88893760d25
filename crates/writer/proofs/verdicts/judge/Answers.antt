-- `writer::verdicts::judge` meets its contract: what `reader::read_item` promises of the bytes, taken to its numbers; 10 where it left some.
use native.Mathlib.Omega.{arith}
use Rattle.std.specs.Prelude.{Err, Ok}
use Rattle.writer.proofs.Laws.{read_all, read_short, refused_some, told_as, told_none, told_refused}
use Rattle.writer.proofs.verdicts.judge.Goals as goal

pub read_item-reading-requires : goal.read_item-reading-requires
read_item-reading-requires c =
    let b = c.as_slice-bytes.ensures in record { at_in_bounds = omega (arith, b.some); message_len_bound = omega (arith, b.most) }

pub returns-then-reading-bytes : goal.returns-then-reading-bytes
returns-then-reading-bytes c =
    rw (← c.as_slice-bytes.ensures.bytes) (told_refused (read_short _ _ _ _ _ c.read_item-reading.ensures c.if-reading-bytes.true) (λ z. omega (arith, z)))

pub returns-in-Refused : goal.returns-in-Refused
returns-in-Refused c =
    let r = c.read_item-reading.ensures in
    rw (← c.as_slice-bytes.ensures.bytes)
    (told_as (Err _) (read_all _ _ _ _ _ r (λ h. omega (arith, c.if-reading-bytes.false, h)) c.limits_of.ensures c.copy_size-room.ensures)
    (told_refused c.in-Refused.is (refused_some 0 _ _ _ r.item_is c.in-Refused.is)))

pub returns-in_default : goal.returns-in_default
returns-in_default c =
    rw (← c.as_slice-bytes.ensures.bytes)
    (told_as (Ok tt) (read_all _ _ _ _ _ c.read_item-reading.ensures (λ h. omega (arith, c.if-reading-bytes.false, h)) c.limits_of.ensures c.copy_size-room.ensures) (told_none _ c.in_default.not-Refused))
