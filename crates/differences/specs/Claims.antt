-- Document 02, P4: what is claimed of the list of differences and of the first, beside their definitions.
use Rattle.std.specs.Prelude.{◌≡◌, ℕ, ◌+◌, ◌-◌, ◌*◌, ◌<◌, List, length, get_or, Some, None, Ok}
use Rattle.differences.specs.declared.Difference.{Difference}
use Rattle.differences.specs.Differences.{record_at, differences}
use Rattle.differences.specs.Answers.{nowhere, first_of}

-- the byte that a record names: "Row r, column c is byte 80(r−1)+c−1"
abbrev pub place_of : Difference → ℕ
place_of d = 80 * (d.row - 1) + (d.column - 1)

-- the k-th record of the list
abbrev pub nth : List ℕ → List ℕ → ℕ → Difference
nth a b k = get_or (differences a b) k nowhere

-- "Every difference appears once and nothing else", "by rows": of any two screens
pub record EachOnce (a b : List ℕ) : Type 0 where
  pub appears : (p : ℕ) → p < 640 → (get_or a p 0 ≡ get_or b p 0 → ⊥) → (k : ℕ) × ((k < length (differences a b)) × (nth a b k ≡ record_at a b p))
  pub nothing_else : (k : ℕ) → k < length (differences a b) → (p : ℕ) × ((p < 640) × ((get_or a p 0 ≡ get_or b p 0 → ⊥) × (nth a b k ≡ record_at a b p)))
  pub by_rows : (i k : ℕ) → i < k → k < length (differences a b) → place_of (nth a b i) < place_of (nth a b k)

-- "only the first difference, or none exactly when the screens are equal": of two screens of 640 bytes
pub record FirstOrNone (a b : List ℕ) : Type 0 where
  pub none_of_equal : a ≡ b → first_of a b ≡ Ok None
  pub equal_of_none : first_of a b ≡ Ok None → a ≡ b
  pub first_is_head : 0 < length (differences a b) → first_of a b ≡ Ok (Some (nth a b 0))
  pub empty_is_none : length (differences a b) ≡ 0 → first_of a b ≡ Ok None

-- both, of all screens
abbrev pub Comparison : Type 0
Comparison = ((a b : List ℕ) → EachOnce a b) × ((a b : List ℕ) → length a ≡ 640 → length b ≡ 640 → FirstOrNone a b)
