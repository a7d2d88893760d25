-- No refusal has the number 0, so a check that gives 0 refuses nothing.
use mathlib.Core.Path.{◌≡◌}
use native.Mathlib.Omega.{arith}
use Rattle.model.specs.declared.Refusal.{Refusal}
use Rattle.model.specs.declared.Refusal.TheVariants.{StoreSize, TooLong, Unsound, StreamTooLong, BytesWait, BadKeyText, ListShort, PackTooLong, CutRecord, UnknownRecord, NoSpace, BadRule, TickFalls, OutputTooSmall}
use Rattle.model.specs.Refusals.{refusal_number}

pub not_0 : (r : Refusal) → refusal_number r ≡ 0 → ⊥
not_0 StoreSize e = omega arith
not_0 TooLong e = omega arith
not_0 Unsound e = omega arith
not_0 StreamTooLong e = omega arith
not_0 BytesWait e = omega arith
not_0 BadKeyText e = omega arith
not_0 ListShort e = omega arith
not_0 PackTooLong e = omega arith
not_0 CutRecord e = omega arith
not_0 UnknownRecord e = omega arith
not_0 NoSpace e = omega arith
not_0 BadRule e = omega arith
not_0 TickFalls e = omega arith
not_0 OutputTooSmall e = omega arith
