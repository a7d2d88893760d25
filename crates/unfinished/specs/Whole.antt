-- Document 02, P1, for the code: where the whole items of some bytes end, and a part of the test of a line.
use Rattle.std.specs.Prelude.{ℕ, Bool, cond, ◌&&◌, List, [], length, leb}
use Rattle.model.specs.Bytes.{joined}
use Rattle.model.specs.Line.{limit}
use Rattle.model.specs.Reading.{gathered, needed, unfinished?}

-- how many bytes are those of whole items; what is behind them waits
unfoldable pub whole_end : List ℕ → ℕ
whole_end m = length (joined (gathered [] m))

-- the bytes of the item in front, or 0 where it is not whole
unfoldable pub whole_item : List ℕ → ℕ
whole_item bs = cond (unfinished? bs) 0 (needed bs)

-- as many wait as there is room for, no more than were counted, and the count within its limit
abbrev pub counted_right : ℕ → ℕ → Bool
counted_right held count = leb held 12 && leb held count && leb count limit
