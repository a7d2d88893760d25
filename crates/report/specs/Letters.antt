-- Document 01, "Bays' examples", program "show": the letters of the rows.
use Rattle.std.specs.Prelude.{ℕ, cond, ◌&&◌, leb}

-- "codes outside 32 to 126 as a dot"
unfoldable pub letter : ℕ → ℕ
letter code = cond (leb 32 code && leb code 126) code 46
