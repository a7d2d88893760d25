-- Document 01, 11, and document 02, P10: what the code finds of a sequence's parameters.
use Rattle.std.specs.Prelude.{◌≡◌, ℕ, Bool, true, false, List, Result, Ok, Err}
use Rattle.model.specs.Checks.{Check, first_bad, in_ranges?}

-- a verdict from its parts: `Ok`, or `Err` with a parameter's number
abbrev pub verdict : Bool → ℕ → Result (Unit {0}) ℕ
verdict true n = Ok tt
verdict false n = Err n

-- it is `Ok` exactly if all checks pass; if it is not, its parameter is the number of the first that fails, the first of the list counted as n
abbrev pub FindsFrom : ℕ → List Check → Result (Unit {0}) ℕ → Type 0
FindsFrom n cs v = v ≡ verdict (in_ranges? cs) (first_bad n cs)

-- "counted from 1 after the second byte"
abbrev pub Finds : List Check → Result (Unit {0}) ℕ → Type 0
Finds = FindsFrom 1
