-- Adler-32 (RFC 1950, section 8): two sums modulo 65,521, the first over the bytes and the second over the first sum's values,
-- held in one number, the second sum times 65,536 plus the first.
use Rattle.std.specs.Prelude.{List, [], ◌∷◌, ℕ, ◌+◌, ◌*◌, ◌/◌, ◌%◌}

-- the first sum after one more byte
unfoldable pub first_sum : ℕ → ℕ → ℕ
first_sum sum byte = (sum % 65536 + byte) % 65521

-- one more byte
unfoldable pub with_byte : ℕ → ℕ → ℕ
unfolding first_sum
with_byte sum byte = (sum / 65536 + first_sum sum byte) % 65521 * 65536 + first_sum sum byte

-- the sum of more bytes, from what the bytes before gave
unfoldable pub adler_from : ℕ → List ℕ → ℕ
unfolding with_byte
adler_from sum [] = sum
adler_from sum (b ∷ bs) = adler_from (with_byte sum b) bs

-- Adler-32 of a list of bytes
abbrev pub adler32 : List ℕ → ℕ
adler32 bytes = adler_from 1 bytes
