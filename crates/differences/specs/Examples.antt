-- Examples of P4, from bytes: what the definitions give for screens of blanks with a few other codes.
use Rattle.std.specs.Prelude.{◌≡◌, ℕ, List, [], ◌∷◌, replicate, set, drop, Some, None, Ok, Err}
use Rattle.differences.specs.declared.Difference.{Difference}
use Rattle.differences.specs.declared.Compared.{Compared}
use Rattle.differences.specs.declared.Refusal.TheVariants.{StoreSize}
use Rattle.differences.specs.Differences.{differences}
use Rattle.differences.specs.Answers.{compared, first_of, list_after, nowhere, refused_by}

abbrev pub blank : List ℕ
blank = replicate 640 32

abbrev pub place : ℕ → ℕ → ℕ → ℕ → Difference
place row column first second = record { row = row; column = column; first = first; second = second }

abbrev pub counting : ℕ → Compared
counting n = record { number = 0; count = n }

-- three places: the last of row 1, the first of row 2, the last of all
abbrev pub three : List ℕ
three = set (set (set blank 79 65) 80 66) 639 255

pub record Examples : Type 0 where
  pub one_place : differences blank (set blank 81 65) ≡ place 2 2 32 65 ∷ []
  pub one_first : first_of blank (set blank 81 65) ≡ Ok (Some (place 2 2 32 65))
  pub over_the_edge : differences blank three ≡ place 1 80 32 65 ∷ place 2 1 32 66 ∷ place 8 80 32 255 ∷ []
  pub codes_in_order : first_of three blank ≡ Ok (Some (place 1 80 65 32))
  pub equal : compared blank blank 0 ≡ counting 0
  pub none : first_of blank blank ≡ Ok None
  pub too_short : compared blank three 2 ≡ refused_by 18
  pub untouched : list_after blank three (replicate 2 nowhere) ≡ replicate 2 nowhere
  pub just_enough : compared blank three 3 ≡ counting 3
  pub beyond_stays : list_after blank three (replicate 5 (place 7 7 7 7)) ≡ place 1 80 32 65 ∷ place 2 1 32 66 ∷ place 8 80 32 255 ∷ place 7 7 7 7 ∷ place 7 7 7 7 ∷ []
  pub size_before_room : compared (drop 1 blank) three 0 ≡ refused_by 1
  pub second_size : first_of blank (drop 1 three) ≡ Err StoreSize
