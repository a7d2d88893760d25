-- Document 02, P4: what the two calls answer, which list the first one leaves, and what each promises.
use Rattle.std.specs.Prelude.{◌≡◌, ℕ, Bool, cond, ◌&&◌, List, [], ◌∷◌, ◌++◌, length, drop, eqb, ltb, Option, Some, None, Result, Ok, Err}
use Rattle.differences.specs.declared.Difference.{Difference}
use Rattle.differences.specs.declared.Compared.{Compared}
use Rattle.differences.specs.declared.Refusal.{Refusal}
use Rattle.differences.specs.declared.Refusal.TheVariants.{StoreSize, ListTooShort}
use Rattle.differences.specs.declared.FirstValues.{FirstValues}
use Rattle.differences.specs.Differences.{record_at, differences, sought}

-- "takes two shown screens of 640 bytes"; else "1 in both calls"
unfoldable pub sized : List ℕ → List ℕ → Bool
sized a b = eqb (length a) 640 && eqb (length b) 640

-- the paper's number of each refusal: "1 in both calls, then 18"
abbrev pub number_of : Refusal → ℕ
number_of StoreSize = 1
number_of ListTooShort = 18

-- a refused call counts nothing ("zero counts, its number", document 01)
abbrev pub refused_by : ℕ → Compared
refused_by number = record { number = number; count = 0 }

-- "the answer gives their number"; "1 in both calls, then 18 in the first exactly when the differences exceed the list"
unfoldable pub compared : List ℕ → List ℕ → ℕ → Compared
compared a b room = cond (sized a b) (cond (ltb room (length (differences a b))) (refused_by 18) (record { number = 0; count = length (differences a b) })) (refused_by 1)

-- the paper's number and values for every case of what the first call finds: how many there are, or a refusal
abbrev pub answer_of : Result ℕ Refusal → Compared
answer_of (Ok n) = record { number = 0; count = n }
answer_of (Err e) = refused_by (number_of e)

-- "one record for each place that differs, in the caller's list", "the list beyond stays"; refused, "the list is then untouched"
unfoldable pub list_after : List ℕ → List ℕ → List Difference → List Difference
list_after a b list = cond (eqb (compared a b (length list)).number 0) (differences a b ++ drop (length (differences a b)) list) list

-- what the first call promises: the screens, the list before, the answer, the list after
pub record ComparePromised (a b : List ℕ) (list : List Difference) (answer : Compared) (list' : List Difference) : Type 0 where
  pub answer_is : answer ≡ compared a b (length list)
  pub list_is : list' ≡ list_after a b list

-- the place that the search found, if it lies on the screen
abbrev pub found_at : List ℕ → List ℕ → ℕ → Result (Option Difference) Refusal
found_at a b p = Ok (cond (ltb p 640) (Some (record_at a b p)) None)

-- "A second call gives only the first difference, or none"
unfoldable pub first_of : List ℕ → List ℕ → Result (Option Difference) Refusal
first_of a b = cond (sized a b) (found_at a b (sought 640 0 a b)) (Err StoreSize)

-- no record: what stands in the values of an answer that has none
abbrev pub nowhere : Difference
nowhere = record { row = 0; column = 0; first = 0; second = 0 }

-- the paper's number and values for every case of that answer: number, 1 if there is a difference, and its record
abbrev pub values_of : Result (Option Difference) Refusal → FirstValues
values_of (Ok (Some d)) = record { number = 0; found = 1; difference = d }
values_of (Ok None) = record { number = 0; found = 0; difference = nowhere }
values_of (Err e) = record { number = number_of e; found = 0; difference = nowhere }

-- "only the first difference, or none", by the list that the first call writes: its head
abbrev pub head_of : List Difference → FirstValues
head_of [] = record { number = 0; found = 0; difference = nowhere }
head_of (d ∷ ds) = record { number = 0; found = 1; difference = d }

-- the second call's number and values without the enum: the list's head, or "1 in both calls"
unfoldable pub first_values : List ℕ → List ℕ → FirstValues
first_values a b = cond (sized a b) (head_of (differences a b)) (record { number = 1; found = 0; difference = nowhere })

-- what the second call promises of its number and values: they are those of what the search finds, and of the list's head
pub record FirstPromised (a b : List ℕ) (values : FirstValues) : Type 0 where
  pub found_is : values ≡ values_of (first_of a b)
  pub values_are : values ≡ first_values a b
