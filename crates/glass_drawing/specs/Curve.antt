-- Mode 3's dots (document 02, P11) in an ordinary terminal: 8 rows of 80 Braille letters under the line of counts. A Braille letter has two columns of
-- four points; here a point stands for 3 columns of 2 rows of dots and is raised where any of these six is on, so that all 480 columns have room in 80.
use Rattle.std.specs.Prelude.{ℕ, zero, suc, ◌+◌, ◌*◌, ◌/◌, ◌%◌, cond, List, [], ◌∷◌, ◌++◌, eqb}
use Rattle.model.specs.Dot.{dot_at}

-- three dots of a row, from column h on
abbrev pub three : List ℕ → ℕ → ℕ → ℕ
three dots v h = dot_at v h dots + dot_at v (h + 1) dots + dot_at v (h + 2) dots

-- the point in row j (of 32) and column k (of 160)
unfoldable pub raised : List ℕ → ℕ → ℕ → ℕ
raised dots j k = cond (eqb (three dots (2 * j) (3 * k) + three dots (2 * j + 1) (3 * k)) 0) 0 1

-- the upper three points of a column of four, from the top
abbrev pub upper : List ℕ → ℕ → ℕ → ℕ
upper dots j k = raised dots j k + 2 * raised dots (j + 1) k + 4 * raised dots (j + 2) k

-- a letter's pattern. Unicode, "Braille Patterns": points 1, 2, 3 are the left column from the top, 4, 5, 6 the right one, 7 and 8 the row under them; point n
-- weighs 2^(n−1)
abbrev pub pattern_of : List ℕ → ℕ → ℕ → ℕ
pattern_of dots row column =
    upper dots (4 * row) (2 * column) + 8 * upper dots (4 * row) (2 * column + 1) + 64 * raised dots (4 * row + 3) (2 * column) + 128 * raised dots (4 * row + 3) (2 * column + 1)

-- U+2800 and the pattern, in UTF-8
abbrev pub letter_of : ℕ → List ℕ
letter_of n = 226 ∷ (160 + n / 64) ∷ (128 + n % 64) ∷ []

-- the bytes of the first n letters of a row
unfoldable pub letters_to : List ℕ → ℕ → ℕ → List ℕ
letters_to dots row zero = []
letters_to dots row (suc n) = letters_to dots row n ++ letter_of (pattern_of dots row n)
