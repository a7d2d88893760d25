-- `letter_of` meets its contract by the tests of its branches.
use native.Mathlib.Omega.{arith}
use borrow.Author.Tests.{le-leb, lt-leb}
use Rattle.report.specs.Letters.{letter}
use Rattle.report.proofs.rows.letter_of.Goals as goal

pub returns-in-32-to-126 : goal.returns-in-32-to-126
unfolding letter
returns-in-32-to-126 c =
    let n = c.args.code in rw (le-leb 32 n (omega arith), le-leb n 126 (omega arith))

pub returns-in_default : goal.returns-in_default
unfolding letter
returns-in_default c =
    rw (lt-leb 32 c.args.code (omega arith))

pub returns-in_default-2 : goal.returns-in_default-2
unfolding letter
returns-in_default-2 c =
    let n = c.args.code in rw (le-leb 32 n (omega arith), lt-leb n 126 (omega arith))
