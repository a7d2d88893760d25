-- What 210 and 224 are given, with the ranges of document 01, "What the sequences do".
use Rattle.std.specs.Prelude.{◌≡◌, List, ℕ, ◌+◌, ◌≤◌, length}

-- 210: "row 1 to 8, column 1 to 80"
pub record Marking (row column : ℕ) : Type 0 where
  pub row_low : 1 ≤ row
  pub row_high : row ≤ 8
  pub column_low : 1 ≤ column
  pub column_high : column ≤ 80

-- 224: "code 224 to 254, its eight rows": of 31 patterns, from a message that holds the rows
pub record Storing (code at : ℕ) (m patterns : List ℕ) : Type 0 where
  pub code_low : 224 ≤ code
  pub code_high : code ≤ 254
  pub rows_in : at + 8 ≤ length m
  pub patterns_are : length patterns ≡ 248
