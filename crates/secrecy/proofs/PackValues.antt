-- P8 and P6: which bytes of a pack are a printed character's value, by the bytes alone.
use mathlib.Core.Path.{◌∙◌, ◌≡◌, ap, refl, subst, sym}
use Prim.Native.Nat.{◌*◌, ◌+◌, ◌-◌, ◌<◌, ◌≤◌, suc, zero, ℕ}
use native.Mathlib.Omega.{arith}
use mathlib.Core.Bool.{Bool, ◌&&◌, cond, false, true}
use mathlib.Core.List.{List, [], ◌∷◌, map}
use lib.ListN.{get_or-eq_default, drop, get_or, length, length-append, length-drop}
use lib.Seq.{get_or-drop, get_or-take}
use lib.Dec.{eqb, leb, ltb}
use borrow.Author.Tests.{le-leb, le-ltb, lt-leb, lt-ltb, ltb-false, ltb-true}
use Rattle.model.specs.Bytes.{joined}
use Rattle.model.specs.State.{State}
use Rattle.model.specs.Reading.{Read, uncut}
use Rattle.model.specs.Records.{Record, body_in, length_in, record_in, records_after, uncut?}
use Rattle.calls.specs.Packs.{bodies_of, items_in, reads_each, record_from, some?}
use Rattle.model.specs.Items.{apply_all, blank_answer, counted_all, events_of}
use Rattle.model.specs.Hidden.{Hidden}
use Rattle.secrecy.specs.Secrecy.{printed_in_pack, revealed}
use Rattle.model.proofs.Tests.{cond_at}
use Rattle.model.proofs.Events.{events_append}
use Rattle.records.proofs.Laws.{body_length, records_next, two_at, uncut_fits, uncut_next}
use Rattle.secrecy.proofs.Reading.{Twins, printed_value, value_at, whole-step}
use Rattle.secrecy.proofs.Items.{Along, along, along_append, along_counts, along_end, revealed_append}

-- byte i of a pack is a character's value, by the bytes of its bodies alone
unfoldable pub value_in : List (List ℕ) → ℕ → Bool
value_in [] i = false
value_in (m ∷ ms) i = cond (ltb i (4 + length m)) (leb 4 i && value_at (uncut m) 0 (i - 4)) (value_in ms (i - (4 + length m)))

pub printed_in_pack_lem : (ms : List (List ℕ)) (st : State) (room i : ℕ) → printed_in_pack ms st room i ≡ value_in ms i
unfolding printed_in_pack value_in
printed_in_pack_lem [] st room i = refl
printed_in_pack_lem (m ∷ ms) st room i =
    let rs : List Read = items_in m st room in
    λ j. cond (ltb i (4 + length m)) (leb 4 i && printed_value (uncut m) 0 st room (i - 4) j)
    (printed_in_pack_lem ms (apply_all (events_of rs) st) (room - (counted_all rs (blank_answer 0 (length m))).printed) (i - (4 + length m)) j)
