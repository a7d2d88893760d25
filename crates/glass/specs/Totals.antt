-- The counts in the line under the rows.
use Rattle.std.specs.Prelude.{ℕ, ◌+◌, min, cond, eqb}
use Rattle.model.specs.declared.Answer.{Answer}

-- a sum in four bytes: no count of a stream passes the greatest
abbrev pub sum_of : ℕ → ℕ → ℕ
sum_of x y = min (x + y) 4294967295

-- the answers of a stream's calls so far and that of the next: counts added, the first refusal of all; number and printer bytes are the last
-- call's
abbrev pub added_up : Answer → Answer → Answer
added_up a b = record {
  number = b.number;
  taken = sum_of a.taken b.taken;
  accepted = sum_of a.accepted b.accepted;
  refused = sum_of a.refused b.refused;
  first = cond (eqb a.refused 0) b.first a.first;
  parameter = cond (eqb a.refused 0) b.parameter a.parameter;
  offset = cond (eqb a.refused 0) b.offset a.offset;
  printed = b.printed;
}
