-- `with_byte` is one step of the definition.
use Rattle.std.proofs.Common.{rules}
use Rattle.report.specs.Adler.{first_sum, with_byte}
use Rattle.report.proofs.adler.with_byte.Goals as goal

pub returns : goal.returns
unfolding with_byte first_sum
returns c =
    search rules
