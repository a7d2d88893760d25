-- A row of the printed copy, from a picture's bytes.
use Rattle.std.specs.Prelude.{ℕ, max, List, [], ◌∷◌, ◌++◌, get_or}
use Rattle.model.specs.Bytes.{list_from}

-- "codes below 32 as 32"
abbrev pub printed : List ℕ → ℕ → ℕ
printed picture p = max 32 (get_or picture p 0)

-- 80 of them, "followed by 13, 10"
unfoldable pub row_copied : List ℕ → ℕ → List ℕ
row_copied picture at = list_from (printed picture) at 80 ++ (13 ∷ 10 ∷ [])
