-- P7, for callers that cannot hand over a named sequence (C): a second byte and its parameters as sent.
use Rattle.std.specs.Prelude.{ℕ, cond, ◌&&◌, List, [], ◌∷◌, length, eqb}

-- the bytes that they make; "209 is always written with its byte": 0 where none is given, as the reader has it
unfoldable pub given_bytes : ℕ → List ℕ → List ℕ
given_bytes second ps = cond (eqb second 209 && eqb (length ps) 0) (27 ∷ 209 ∷ 0 ∷ []) (27 ∷ second ∷ ps)
