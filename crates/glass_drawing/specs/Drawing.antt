-- What is drawn of a shown screen in an ordinary terminal: the letters that changed since the one before it, by rows from the left, "only what
-- changed". What is asked of the terminal is a list of strokes; the bytes are those of ECMA-48. What a terminal that reads them then shows is
-- said in Seen, which knows nothing of strokes.
use Rattle.std.specs.Prelude.{◌≡◌, ℕ, zero, suc, ◌+◌, ◌-◌, ◌/◌, ◌%◌, Bool, cond, not, ◌||◌, List, [], ◌∷◌, ◌++◌, get_or, eqb}
use Rattle.report.specs.Letters.{letter}
use Rattle.glass_drawing.specs.Seen.{Redraws}

-- another letter is to stand at place p, row r and column c being place 80(r−1)+c−1
unfoldable pub changed : List ℕ → List ℕ → ℕ → Bool
changed old new p = not (eqb (letter (get_or old p 0)) (letter (get_or new p 0)))

-- the terminal's cursor is not there already: the place is the first of its row, or no letter was drawn at the place before it
unfoldable pub apart : List ℕ → List ℕ → ℕ → Bool
apart old new p = eqb (p % 80) 0 || not (changed old new (p - 1))

-- what is asked of a terminal: its cursor to a place, or a letter where it stands
pub data Stroke : Type 0 where
  move : ℕ → Stroke
  write : ℕ → Stroke

-- for one place
unfoldable pub strokes_at : List ℕ → List ℕ → ℕ → List Stroke
strokes_at old new p = cond (changed old new p) (cond (apart old new p) (move p ∷ []) [] ++ (write (letter (get_or new p 0)) ∷ [])) []

-- for n places from place p on
unfoldable pub strokes_from : List ℕ → List ℕ → ℕ → ℕ → List Stroke
strokes_from old new p zero = []
strokes_from old new p (suc n) = strokes_at old new p ++ strokes_from old new (suc p) n

-- for all 640
unfoldable pub strokes : List ℕ → List ℕ → List Stroke
strokes old new = strokes_from old new 0 640

-- ECMA-48, CUP: ESC [ row ; column H, here with one digit for the row and two for the column
unfoldable pub address_of : ℕ → List ℕ
address_of p = 27 ∷ 91 ∷ (49 + p / 80) ∷ 59 ∷ (48 + (p % 80 + 1) / 10) ∷ (48 + (p % 80 + 1) % 10) ∷ 72 ∷ []

-- the bytes of strokes, one behind another
unfoldable pub bytes_of : List Stroke → List ℕ
bytes_of [] = []
bytes_of (move p ∷ ss) = address_of p ++ bytes_of ss
bytes_of (write c ∷ ss) = c ∷ bytes_of ss

-- what is drawn of a new screen over an old one: the bytes of its strokes, and a terminal that showed the old one shows the new one by them
pub record Draws (old new r : List ℕ) : Type 0 where
  pub bytes_are : r ≡ bytes_of (strokes old new)
  pub seen : Redraws old new r
