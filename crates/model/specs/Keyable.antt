-- Document 02, P2, number 17: the keys and texts that a key call takes.
use Rattle.std.specs.Prelude.{ℕ, Bool, ◌&&◌, List, length, leb, eqb}

-- 17: "a key number outside 1 to 10 or a text not of 8 bytes"; here, that it is neither
unfoldable pub keyable : ℕ → List ℕ → Bool
keyable k x = leb 1 k && (leb k 10 && eqb (length x) 8)
