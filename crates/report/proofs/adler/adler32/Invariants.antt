-- `adler32`: what is reached, with the bytes that are left, gives the sum of all.
use mathlib.Core.Path.{◌≡◌}
use lib.ListN.{drop}
use Rattle.report.specs.Adler.{adler_from}
use Rattle.report.proofs.adler.adler32.Given as goal

abbrev pub invariant-loop-byte : goal.invariant-loop-byte
invariant-loop-byte l = adler_from l.reached (drop l.byte-index l.bytes) ≡ adler_from l.sum l.bytes
