-- Document 02, P1, "over its calls together": two answers as one.
use Rattle.std.specs.Prelude.{◌+◌, cond, eqb}
use Rattle.model.specs.declared.Answer.{Answer}

-- two answers as one: counts added, the first refusal of the two; the number is the second's
abbrev pub together : Answer → Answer → Answer
together a b = record {
  number = b.number;
  taken = a.taken + b.taken;
  accepted = a.accepted + b.accepted;
  refused = a.refused + b.refused;
  first = cond (eqb a.refused 0) b.first a.first;
  parameter = cond (eqb a.refused 0) b.parameter a.parameter;
  offset = cond (eqb a.refused 0) b.offset a.offset;
  printed = a.printed + b.printed;
}
