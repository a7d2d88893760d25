-- Laws of Adler-32: a turn of the loop, and its end.
use mathlib.Core.Path.{◌≡◌}
use mathlib.Core.List.{List}
use Prim.Native.Nat.{ℕ, ◌+◌, ◌<◌}
use native.Mathlib.Numerals.{add-one}
use lib.ListN.{length, drop, get_or}
use lib.Seq.{drop-cons, drop-length}
use Rattle.report.specs.Adler.{adler_from, with_byte}

pub adler_next : (sum : ℕ) (bytes : List ℕ) (i : ℕ) → i < length bytes → adler_from (with_byte sum (get_or bytes i 0)) (drop (i + 1) bytes) ≡ adler_from sum (drop i bytes)
unfolding adler_from
adler_next sum bytes i h = rw (add-one, drop-cons bytes i 0 h)

pub adler_end : (sum : ℕ) (bytes : List ℕ) → adler_from sum (drop (length bytes) bytes) ≡ sum
unfolding adler_from
adler_end sum bytes = rw (drop-length bytes)
