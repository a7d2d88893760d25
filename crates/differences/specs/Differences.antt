-- Document 02, P4 "Compare two screens": the places where two shown screens differ, and the first of them. What the calls answer is in
-- Answers; what is claimed of these lists, in Claims. A place is named by its byte, 0 to 639; rows and columns count from 1.
use Rattle.std.specs.Prelude.{ℕ, zero, suc, ◌+◌, ◌/◌, ◌%◌, cond, List, [], ◌∷◌, get_or, eqb}
use Rattle.differences.specs.declared.Difference.{Difference}

-- "row, column, first code, second code", of byte p: "Row r, column c is byte 80(r−1)+c−1 of the shown screen" (document 01)
abbrev pub record_at : List ℕ → List ℕ → ℕ → Difference
record_at a b p = record { row = p / 80 + 1; column = p % 80 + 1; first = get_or a p 0; second = get_or b p 0 }

-- the records of those of n places from byte p on that differ
unfoldable pub listed : ℕ → ℕ → List ℕ → List ℕ → List Difference
listed zero p a b = []
listed (suc n) p a b = cond (eqb (get_or a p 0) (get_or b p 0)) (listed n (suc p) a b) (record_at a b p ∷ listed n (suc p) a b)

-- "one record for each place that differs .. by rows"
unfoldable pub differences : List ℕ → List ℕ → List Difference
differences a b = listed 640 0 a b

-- "search row by row from the left and stop at the first": of n places from byte p on, the first that differs; the place behind them if none does
unfoldable pub sought : ℕ → ℕ → List ℕ → List ℕ → ℕ
sought zero p a b = p
sought (suc n) p a b = cond (eqb (get_or a p 0) (get_or b p 0)) (sought n (suc p) a b) p
