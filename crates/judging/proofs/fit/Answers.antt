-- `judging::fit` meets its contract: only a copy needs room.
use borrow.Author.Tests.{le-ltb, lt-ltb}
use Rattle.model.specs.Judging.{fitting}
use Rattle.judging.proofs.JudgingLaws.{no_copy}
use borrow.Enum.Refused.{opened}
use Rattle.judging.proofs.fit.Goals as goal

pub returns-then-room-copy_size : goal.returns-then-room-copy_size
unfolding fitting
returns-then-room-copy_size c =
    rw (c.in-Copy.is, ← c.copy_size.ensures, lt-ltb _ _ c.if-room-copy_size.true)

pub returns-else-room-copy_size : goal.returns-else-room-copy_size
unfolding fitting
returns-else-room-copy_size c =
    rw (c.in-Copy.is, ← c.copy_size.ensures, le-ltb _ _ c.if-room-copy_size.false)

pub returns-in_default : goal.returns-in_default
unfolding fitting
returns-in_default c =
    rw (no_copy _ (opened c.in_default.in_default-own.keys2))
