-- Only a copy is 80.
use mathlib.Core.Path.{sym}
use Rattle.judging.proofs.JudgingLaws.{no_copy}
use borrow.Enum.Refused.{opened}
use Rattle.counting.proofs.is_copy.Goals as goal

pub returns-in-Copy : goal.returns-in-Copy
returns-in-Copy c =
    rw c.in-Copy.is

pub returns-in_default : goal.returns-in_default
returns-in_default c =
    sym (no_copy c.args.q (opened c.in_default.in_default-own.keys2))
