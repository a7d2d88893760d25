-- Only a clearing is 42.
use mathlib.Core.Path.{sym}
use Rattle.obeying.proofs.Wiping.{no_clear}
use borrow.Enum.Refused.{opened}
use Rattle.obeying.proofs.is_clear.Goals as goal

pub returns-in-Clear : goal.returns-in-Clear
returns-in-Clear c =
    rw c.in-Clear.is

pub returns-in_default : goal.returns-in_default
returns-in_default c =
    sym (no_clear c.args.q (opened c.in_default.in_default-own.keys2))
