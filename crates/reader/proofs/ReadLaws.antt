-- What stands at an offset of a message, way by way through `read_item` and `read_sequence`: the item's own bytes are those
-- that it needs, or what is left of the message.
use mathlib.Core.Path.{◌∙◌, ◌≡◌, ap, refl, subst, sym}
use Prim.Native.Nat.{ℕ, ◌+◌, ◌-◌, ◌<◌, ◌≤◌}
use native.Mathlib.Nat.{add-zero}
use native.Mathlib.Omega.{arith}
use mathlib.Core.List.{List, [], ◌∷◌}
use lib.ListN.{get_or-eq_default, drop, get_or, length, length-drop, length-take, take}
use lib.Dec.{ltb}
use lib.Seq.{get_or-drop, get_or-take, length-take-le, take_all}
use borrow.Author.Tests.{ltb-false, ltb-true}
use Rattle.model.specs.declared.Limits.{Limits}
use Rattle.model.specs.declared.Item.{Item}
use Rattle.model.specs.declared.Item.TheVariants.{Printed, Control, Refused}
use Rattle.model.specs.Reading.{decoded, ended, item_of, needed, own_bytes}
use Rattle.model.specs.Judging.{allowed, fitting, judged}
use Rattle.calls.proofs.Loop.{own_some}
use Rattle.model.proofs.Tests.{elim_at}
use Rattle.model.proofs.Events.{legal_judged}
use Rattle.tables.specs.Lengths.{length_of}
use Rattle.decoding.specs.Decoding.{whole}
use Rattle.reader.specs.Reading.{ReadAt, by_itself}
use Rattle.decoding.proofs.Needed.{needed_alone, needed_cut, needed_own, needed-plain, needed_unlisted, needed-whole, said, unlisted_own}
use Rattle.reader.proofs.ItemOf.{decoded-control, decoded_printed, decoded_sequence, ended_by, item_cut, item_whole, judged-ended}
use Rattle.decoding.proofs.DecodingLaws.{whole_unlisted}
use Rattle.reader.proofs.PatternRows.{pattern_rows}

module _ (m : List ℕ) (at : ℕ) (s : Limits) (room : ℕ) (h : at < length m) where
  -- what is left of the message, and the first n bytes of it
  abbrev rest : List ℕ
  rest = drop at m

  abbrev own : ℕ → List ℕ
  own n = take n rest

  own_inside : at + length (own_bytes m at) ≤ length m
  unfolding own_bytes
  own_inside = simp (length-take, length-drop) (omega arith)

  abbrev Reads : Item → ℕ → Type 0
  Reads i n = ReadAt m at s room (record { item = i; length = n })

  -- an item and its length are enough
  reads : (i : Item) (n : ℕ) → i ≡ judged (item_of at (own_bytes m at)) s room → n ≡ length (own_bytes m at) → Reads i n
  reads i n e f = record {
    item_is = e;
    length_is = f;
    some = omega (arith, own_some m at h);
    inside = omega (arith, own_inside);
    legal = rw e (legal_judged (item_of at (own_bytes m at)) s room);
    rows_inside = λ c o z. omega (arith, own_inside, pattern_rows at (own_bytes m at) s room c o (sym e ∙ z));
  }

  -- an item of n bytes: j before it is judged, i then
  reads_whole : (n : ℕ) (j i : Item) → needed rest ≡ n → needed (own n) ≡ n → n ≤ length m - at → decoded at (own n) ≡ j → i ≡ judged j s room → Reads i n
  unfolding own_bytes
  reads_whole n j i e o l d q =
      let k : length (own n) ≡ n = length-take-le n rest (rw length-drop l) in
      let t : item_of at (own (needed rest)) ≡ j = rw e (item_whole at (own n) (omega arith) ∙ d) in
      reads i n (rw t q) (rw e (sym k))

  -- an item that the message cuts short
  reads_cut : (i : Item) → length rest < needed rest → i ≡ ended rest → Reads i (length m - at)
  unfolding own_bytes
  reads_cut i l e =
      let t : own (needed rest) ≡ rest = take_all (needed rest) rest (omega arith) in
      reads i (length m - at) (rw (t, item_cut at rest l, judged-ended rest s room) e) (rw t (sym (length-drop at m)))

  first : get_or rest 0 0 ≡ get_or m at 0
  first = get_or-drop at m 0 0 ∙ ap (λ (k : ℕ). get_or m k 0) (add-zero at)

  -- a printed byte or a code
  module _ (e : get_or m at 0 ≡ 27 → ⊥) where
    some_left : 1 ≤ length rest
    some_left = rw length-drop (omega arith)

    one : get_or (own 1) 0 0 ≡ get_or m at 0
    one = get_or-take 1 rest 0 0 (omega arith) ∙ first

    plain : get_or (own 1) 0 0 ≡ 27 → ⊥
    plain z = e (sym one ∙ z)

    reads_one : (i : Item) → decoded at (own 1) ≡ i → i ≡ judged i s room → Reads i 1
    reads_one i d q =
        reads_whole 1 i i (needed-plain rest some_left (λ z. e (sym first ∙ z))) (needed-plain (own 1) (omega (arith, length-take-le 1 rest some_left)) plain) (omega arith) d q

    reads_control : get_or m at 0 < 32 → Reads (Control (get_or m at 0)) 1
    unfolding allowed fitting
    reads_control l = reads_one _ (decoded-control at (own 1) plain (omega (arith, one)) ∙ ap Control one) refl

    reads_printed : 32 ≤ get_or m at 0 → Reads (Printed (get_or m at 0)) 1
    unfolding allowed fitting
    reads_printed l = reads_one _ (decoded_printed at (own 1) plain (omega (arith, one)) ∙ ap Printed one) refl

    pub reads_byte : {i : Item} → i ≡ by_itself (get_or m at 0) → Reads i 1
    reads_byte d =
        subst (λ (i : Item). Reads i 1) (sym d)
        (elim_at (λ (i : Item). Reads i 1) (ltb (get_or m at 0) 32) _ _ (λ t. reads_control (ltb-true _ 32 t)) (λ t. reads_printed (ltb-false _ 32 t)))

  -- a sequence
  module _ (e : get_or m at 0 ≡ 27) where
    escape : get_or rest 0 0 ≡ 27
    escape = first ∙ e

    escape_own : (n : ℕ) → 0 < n → decoded at (own n) ≡ whole at (own n)
    escape_own n l = decoded_sequence at (own n) (get_or-take n rest 0 0 l ∙ escape)

    pub reads_alone : length m - at < 2 → Reads (Refused 12 0) (length m - at)
    unfolding ended
    reads_alone l =
        let k : length rest < 2 = rw length-drop l in
        reads_cut (Refused 12 0) (needed_alone rest k escape) (sym (ended_by rest 0 (get_or-eq_default rest 0 {n = 1} (omega arith))))

    -- the third byte k, and the length n that the second and the third say
    module _ (k n : ℕ) (g : k ≡ get_or m (at + 2) 0) (z : n ≡ length_of (get_or m (at + 1) 0) k) (l : 2 ≤ length m - at) where
      two : 2 ≤ length rest
      two = rw length-drop l

      second : get_or rest 1 0 ≡ get_or m (at + 1) 0
      second = get_or-drop at m 1 0

      says : said rest ≡ n
      says = rw (second, get_or-drop at m 2 0, ← g) (sym z)

      pub reads_unlisted : n ≡ 0 → Reads (Refused 10 0) 2
      unfolding allowed fitting
      reads_unlisted o =
          let t : length_of (get_or (own 2) 1 0) (get_or rest 2 0) ≡ 0 = rw (get_or-take 2 rest 1 0 (omega arith)) (says ∙ o) in
          reads_whole 2 (Refused 10 0) (Refused 10 0) (needed_unlisted rest two escape (says ∙ o)) (unlisted_own rest two escape (says ∙ o)) l
          (escape_own 2 (omega arith) ∙ whole_unlisted at (own 2) (get_or rest 2 0) t) refl

      module _ (o : n ≡ 0 → ⊥) (i : Item) where
        listed : said rest ≡ 0 → ⊥
        listed y = o (sym says ∙ y)

        pub reads_ended : length m - at < n → i ≡ ended (27 ∷ get_or m (at + 1) 0 ∷ []) → Reads i (length m - at)
        reads_ended w d = reads_cut i (needed_cut rest two escape listed (omega (arith, says, length-drop at m))) (d ∙ sym (ended_by rest (get_or m (at + 1) 0) second))

        pub reads_sequence : {taken : ℕ} → taken ≡ n → n ≤ length m - at → (j : Item) → j ≡ whole at (own (at + n - at)) → i ≡ judged j s room → Reads i taken
        reads_sequence r w j q d =
            let v : said rest ≤ length rest = omega (arith, says, length-drop at m) in
            let t : at + n - at ≡ n = omega arith in
            rw r (reads_whole n j i (needed-whole rest two escape listed v ∙ says) (subst (λ (k : ℕ). needed (own k) ≡ k) says (needed_own rest two escape listed v)) w
            (escape_own n (omega arith) ∙ sym (rw t at q)) d)
