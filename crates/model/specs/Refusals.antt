-- Documents 01 and 02, "Numbers returned": the number of each refusal of a whole call; of what was checked it is 0 where nothing refuses it.
use Rattle.std.specs.Prelude.{ℕ, Result, Ok, Err}
use Rattle.model.specs.declared.Refusal.{Refusal}
use Rattle.model.specs.declared.Refusal.TheVariants.{StoreSize, TooLong, Unsound, StreamTooLong, BytesWait, BadKeyText, ListShort, PackTooLong, CutRecord, UnknownRecord, NoSpace, BadRule, TickFalls, OutputTooSmall}

-- the number of each
abbrev pub refusal_number : Refusal → ℕ
refusal_number StoreSize = 1
refusal_number TooLong = 2
refusal_number Unsound = 3
refusal_number StreamTooLong = 15
refusal_number BytesWait = 16
refusal_number BadKeyText = 17
refusal_number ListShort = 18
refusal_number PackTooLong = 19
refusal_number CutRecord = 20
refusal_number UnknownRecord = 21
refusal_number NoSpace = 22
refusal_number BadRule = 23
refusal_number TickFalls = 24
refusal_number OutputTooSmall = 25

-- the number of a check: 0, "call served", where it refuses nothing
abbrev pub check_number : Result (Unit {0}) Refusal → ℕ
check_number (Ok done) = 0
check_number (Err r) = refusal_number r
