-- Document 01, "Lengths with ESC, by second byte", as the code decides them.
use Rattle.std.specs.Prelude.{ℕ}
use Rattle.model.specs.Sequences.{in_list_order, mode_row_of}

-- by the second byte and, of 208, the mode byte; 0 where the list has none
unfoldable pub length_of : ℕ → ℕ → ℕ
length_of c k = in_list_order c (mode_row_of k).bytes 0
