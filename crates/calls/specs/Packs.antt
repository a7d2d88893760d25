-- Document 02, P6: "The office sends packs: records of a two-byte length of the body, a two-byte kind, both little-endian, then the body. Kind 1 is
-- a message." The messages of a pack, and what they give one after the other, each as if it were sent by itself. The record form is in
-- Records; when a pack is refused, and that a refused one does nothing, is in Calls.
use Rattle.std.specs.Prelude.{ℕ, ◌+◌, ◌-◌, Bool, true, false, cond, List, [], ◌∷◌, ◌++◌, map, length, eqb}
use Rattle.model.specs.State.{State}
use Rattle.model.specs.Reading.{Read, uncut}
use Rattle.model.specs.Records.{Record, records_of}
use Rattle.model.specs.Items.{reads_of, events_of, apply_all, blank_answer, counted_all}

-- the bodies of a pack's records, which are its messages
unfoldable pub bodies_of : List ℕ → List (List ℕ)
bodies_of p = map (λ (r : Record). r.body) (records_of p)

-- 21: "unknown kind"; here, that it is known: "Kind 1 is a message"
unfoldable pub known? : Record → Bool
known? r = eqb r.kind 1

-- there is a message: an empty pack has none
abbrev pub some? : List (List ℕ) → Bool
some? [] = false
some? (m ∷ ms) = true

-- the items of a message, in some printer room: "its offset in that body", and 27, 209 or 12 at its own end
abbrev pub items_in : List ℕ → State → ℕ → List Read
items_in m st room = reads_of (uncut m) 0 st room

-- "must equal its messages sent one by one": the items of the first, then those of the others, read with what it left and "each having the room left
-- over"
unfoldable pub reads_each : List (List ℕ) → State → ℕ → List Read
reads_each [] st room = []
reads_each (m ∷ ms) st room =
    let rs = items_in m st room in
    rs ++ reads_each ms (apply_all (events_of rs) st) (room - (counted_all rs (blank_answer 0 (length m))).printed)

-- "the first refusal with its record (from 1; 0 if none)": the number of the first message whose answer has a refusal, the first of them being k
unfoldable pub record_from : ℕ → List (List ℕ) → State → ℕ → ℕ
record_from k [] st room = 0
record_from k (m ∷ ms) st room =
    let rs = items_in m st room in
    let a = counted_all rs (blank_answer 0 (length m)) in
    cond (eqb a.refused 0) (record_from (k + 1) ms (apply_all (events_of rs) st) (room - a.printed)) k
