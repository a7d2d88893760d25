-- Document 01, "Lengths with ESC, by second byte": the whole sequences, as the code takes the list apart.
use Rattle.std.specs.Prelude.{ℕ, ◌+◌, List, drop, get_or}
use Rattle.model.specs.declared.Item.{Item}
use Rattle.model.specs.Sequences.{Row, find, refusal, rows}
use Rattle.model.specs.Reading.{kind_of}

-- parameter n of a sequence, from 1, in its own bytes
abbrev pub sent : List ℕ → ℕ → ℕ
sent bs n = get_or bs (n + 1) 0

-- the kind that a second byte makes, looked for in the list from row n on
unfoldable pub kind_from : ℕ → ℕ → Row
kind_from n c = find (refusal 0 2 10 0) (drop n rows) c

-- what the bytes of a whole sequence are, its ESC at an offset of the message
unfoldable pub whole : ℕ → List ℕ → Item
whole at bs = (kind_of bs).made (sent bs) (at + 2)
