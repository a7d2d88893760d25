-- Places of the shown screen, painted: what every loop over them leaves.
use Rattle.std.specs.Prelude.{ℕ, List}
use Rattle.model.specs.Bytes.{list_from, put}

-- the count places from `from` on, each with what f says of it; the others stay
unfoldable pub painted : ℕ → ℕ → (ℕ → ℕ) → List ℕ → List ℕ
painted from count f xs = put from (list_from f from count) xs
