-- P1, for the code: bytes read from offset k + o and from o make the same items but for a pattern's offset, with the same effect and printer
-- bytes, and the same answer but for the offset of a first refusal. So what reads a message reads a part of a stream.
use mathlib.Core.Path.{◌∙◌, ◌≡◌, ap, refl, sym}
use Prim.Native.Nat.{◌*◌, ◌+◌, ◌-◌, suc, zero, ℕ}
use native.Mathlib.Omega.{arith}
use mathlib.Core.Bool.{Bool, ◌&&◌, cond, false, true}
use mathlib.Core.List.{List, [], ◌++◌, ◌∷◌}
use lib.ListN.{get_or, length}
use lib.Dec.{eqb, ltb}
use borrow.Author.Tests.{ne_eqb}
use Rattle.model.specs.Picture.{copy_size_of}
use Rattle.model.specs.declared.Answer.{Answer}
use Rattle.model.specs.declared.Item.{Item}
use Rattle.model.specs.declared.Item.TheVariants.{Control, Printed, Refused, Sequence}
use Rattle.model.specs.declared.Limits.{Limits}
use Rattle.model.specs.declared.Sequence.TheVariants.{Pattern, Select}
use Rattle.model.specs.Bytes.{list_from, put}
use Rattle.model.specs.State.{State}
use Rattle.model.specs.Sequences.{idle?, Row, code_of, find, mode_row_of, mode_rows, refusal, row_of, rows}
use Rattle.model.specs.Reading.{Read, byte_of, decoded, ended, item_of, kind_of, unfinished?}
use Rattle.model.specs.Judging.{allowed, bad_of, fitting, judged, legal?, limits_of, judged_ranges}
use Rattle.model.specs.Checks.{in_ranges?}
use Rattle.model.specs.Rules.{apply_item, obeyed, with_kind_patterns}
use Rattle.model.specs.Items.{apply_all, copies, copy_of, counted, counted_all, events_of, happened, obeyed_by, printer_bytes, read, reads_of}
use Rattle.model.proofs.Tests.{cond_at}

-- an answer whose items lie k further on: the first refusal's offset, if there is one
abbrev pub further : ℕ → Answer → Answer
further k a = record { number = a.number; taken = a.taken; accepted = a.accepted; refused = a.refused; first = a.first; parameter = a.parameter; offset = cond (eqb a.refused 0) a.offset (k + a.offset); printed = a.printed }

module _ (k : ℕ) where
  -- an item, and the same k further on: it looks at no byte of the message, or is a pattern
  data Moved : Item → Item → Type 0 where
    same : {i : Item} → ((f g : ℕ → ℕ) (st : State) → apply_item f i st ≡ apply_item g i st) → Moved i i
    pattern : (c a b : ℕ) → b ≡ k + a → Moved (Sequence (Pattern c a)) (Sequence (Pattern c b))

  MovedRow : Row → Type 0
  MovedRow r = (p : ℕ → ℕ) (o o' : ℕ) → o' ≡ k + o → Moved (r.made p o) (r.made p o')

  infixr 30 ◌▹◌
  data MovedRows : List Row → Type 0 where
    done : MovedRows []
    ◌▹◌ : {r : Row} {rs : List Row} → MovedRow r → MovedRows rs → MovedRows (r ∷ rs)

  found_moved : (other : Row) (rs : List Row) (c : ℕ) → MovedRow other → MovedRows rs → MovedRow (find other rs c)
  unfolding find
  found_moved other [] c h done = h
  found_moved other (r ∷ rs) c h (x ▹ xs) = cond_at MovedRow (eqb c r.code) r (find other rs c) (λ e. x) (λ e. found_moved other rs c h xs)

  -- row by row, in the order of the table: only 224 names its rows by their offset
  rows_moved : MovedRows rows
  unfolding MovedRow apply_item obeyed
  rows_moved =
      (λ p o o' e. same (λ f g st. refl)) ▹ (λ p o o' e. same (λ f g st. refl)) ▹ (λ p o o' e. same (λ f g st. refl)) ▹ (λ p o o' e. same (λ f g st. refl)) ▹
      (λ p o o' e. same (λ f g st. refl)) ▹ (λ p o o' e. same (λ f g st. refl)) ▹ (λ p o o' e. same (λ f g st. refl)) ▹ (λ p o o' e. same (λ f g st. refl)) ▹
      (λ p o o' e. same (λ f g st. refl)) ▹ (λ p o o' e. same (λ f g st. refl)) ▹ (λ p o o' e. same (λ f g st. refl)) ▹ (λ p o o' e. same (λ f g st. refl)) ▹
      (λ p o o' e. same (λ f g st. refl)) ▹ (λ p o o' e. same (λ f g st. refl)) ▹ (λ p o o' e. same (λ f g st. refl)) ▹ (λ p o o' e. same (λ f g st. refl)) ▹
      (λ p o o' e. same (λ f g st. refl)) ▹ (λ p o o' e. same (λ f g st. refl)) ▹ (λ p o o' e. same (λ f g st. refl)) ▹ (λ p o o' e. same (λ f g st. refl)) ▹
      (λ p o o' e. same (λ f g st. refl)) ▹ (λ p o o' e. same (λ f g st. refl)) ▹ (λ p o o' e. same (λ f g st. refl)) ▹ (λ p o o' e. same (λ f g st. refl)) ▹
      (λ p o o' e. same (λ f g st. refl)) ▹ (λ p o o' e. same (λ f g st. refl)) ▹ (λ p o o' e. same (λ f g st. refl)) ▹ (λ p o o' e. same (λ f g st. refl)) ▹
      (λ p o o' e. same (λ f g st. refl)) ▹ (λ p o o' e. same (λ f g st. refl)) ▹ (λ p o o' e. same (λ f g st. refl)) ▹ (λ p o o' e. same (λ f g st. refl)) ▹
      (λ p o o' e. same (λ f g st. refl)) ▹ (λ p o o' e. same (λ f g st. refl)) ▹ (λ p o o' e. same (λ f g st. refl)) ▹ (λ p o o' e. same (λ f g st. refl)) ▹
      (λ p o o' e. same (λ f g st. refl)) ▹ (λ p o o' e. same (λ f g st. refl)) ▹ (λ p o o' e. same (λ f g st. refl)) ▹ (λ p o o' e. same (λ f g st. refl)) ▹
      (λ p o o' e. same (λ f g st. refl)) ▹ (λ p o o' e. pattern (p 1) (o + 1) (o' + 1) (omega arith)) ▹ (λ p o o' e. same (λ f g st. refl)) ▹ done

  modes_moved : MovedRows mode_rows
  unfolding MovedRow apply_item obeyed
  modes_moved = (λ p o o' e. same (λ f g st. refl)) ▹ (λ p o o' e. same (λ f g st. refl)) ▹ (λ p o o' e. same (λ f g st. refl)) ▹ (λ p o o' e. same (λ f g st. refl)) ▹ done

  row_moved : (c : ℕ) → MovedRow (row_of c)
  unfolding row_of MovedRow apply_item
  row_moved c = found_moved (refusal 0 2 10 0) rows c (λ p o o' e. same (λ f g st. refl)) rows_moved

  mode_moved : (c : ℕ) → MovedRow (mode_row_of c)
  unfolding mode_row_of MovedRow apply_item
  mode_moved c = found_moved (refusal 0 3 11 1) mode_rows c (λ p o o' e. same (λ f g st. refl)) modes_moved

  item_moved : (at : ℕ) (bs : List ℕ) → Moved (item_of at bs) (item_of (k + at) bs)
  unfolding item_of ended decoded kind_of MovedRow apply_item obeyed
  item_moved at bs = go (unfinished? bs) (eqb (get_or bs 1 0) 209) (eqb (get_or bs 0 0) 27) (ltb (get_or bs 0 0) 32) (eqb (get_or bs 1 0) 208)
    where
      args : ℕ → ℕ
      args n = get_or bs (n + 1) 0

      go : (u s e c m : Bool) → Moved
          (elim u [ true ↦ elim s [ true ↦ Sequence (Select 0) | false ↦ Refused 12 0 ] | false ↦ elim e [ true ↦ (elim m as (λ m. Row) [ true ↦ mode_row_of (get_or bs 2 0) | false ↦ row_of (get_or bs 1 0) ]).made args (at + 2) | false ↦ elim c [ true ↦ Control (get_or bs 0 0) | false ↦ Printed (get_or bs 0 0) ] ] ])
          (elim u [ true ↦ elim s [ true ↦ Sequence (Select 0) | false ↦ Refused 12 0 ] | false ↦ elim e [ true ↦ (elim m as (λ m. Row) [ true ↦ mode_row_of (get_or bs 2 0) | false ↦ row_of (get_or bs 1 0) ]).made args (k + at + 2) | false ↦ elim c [ true ↦ Control (get_or bs 0 0) | false ↦ Printed (get_or bs 0 0) ] ] ])
      go true true e c m = same (λ f g st. refl)
      go true false e c m = same (λ f g st. refl)
      go false s true c true = mode_moved (get_or bs 2 0) args (at + 2) (k + at + 2) (omega arith)
      go false s true c false = row_moved (get_or bs 1 0) args (at + 2) (k + at + 2) (omega arith)
      go false s false true m = same (λ f g st. refl)
      go false s false false m = same (λ f g st. refl)

  -- judging keeps it so
  judged_moved : {i j : Item} → Moved i j → (s : Limits) (room : ℕ) → Moved (judged i s room) (judged j s room)
  unfolding allowed fitting legal? bad_of judged_ranges apply_item in_ranges?
  judged_moved {i} (same h) s room = go i h
    where
      go : (i : Item) → ((f g : ℕ → ℕ) (st : State) → apply_item f i st ≡ apply_item g i st) → Moved (judged i s room) (judged i s room)
      go (Printed c) h = same h
      go (Control c) h = same h
      go (Sequence q) h = cond_at (λ (x : Item). Moved (fitting s.mode x room) (fitting s.mode x room)) (legal? q s) (Sequence q) (Refused 11 (bad_of q s))
          (λ e. cond_at (λ (x : Item). Moved x x) (eqb (code_of q) 80 && ltb room (copy_size_of s.mode)) (Refused 13 0) (Sequence q) (λ e. same (λ f g st. refl)) (λ e. same h)) (λ e. same (λ f g st. refl))
      go (Refused n p) h = same h
  judged_moved (pattern c a b e) s room = go (legal? (Pattern c a) s)
    where
      go : (t : Bool) → Moved (fitting s.mode (cond t (Sequence (Pattern c a)) (Refused 11 (bad_of (Pattern c a) s))) room) (fitting s.mode (cond t (Sequence (Pattern c b)) (Refused 11 (bad_of (Pattern c b) s))) room)
      go true = pattern c a b e
      go false = same (λ f g st. refl)

  -- the effect, with each item's own bytes
  same_list : (f g : ℕ → ℕ) → ((o : ℕ) → f o ≡ g (k + o)) → (a n : ℕ) → list_from f a n ≡ list_from g (k + a) n
  same_list f g h a zero = refl
  same_list f g h a (suc n) =
      let e : suc (k + a) ≡ k + suc a = omega arith in
      (λ i. h a i ∷ (same_list f g h (suc a) n ∙ ap (λ (x : ℕ). list_from g x n) (sym e)) i)

  does_same : {i j : Item} → Moved i j → (f g : ℕ → ℕ) → ((o : ℕ) → f o ≡ g (k + o)) → (st : State) → apply_item f i st ≡ apply_item g j st
  unfolding apply_item obeyed
  does_same (same h) f g e st = h f g st
  does_same (pattern c a b z) f g e st =
      λ i. cond (idle? st.settings.mode 224) st (with_kind_patterns st.settings.kind (put ((c - 224) * 8) ((same_list f g e a 8 ∙ ap (λ (x : ℕ). list_from g x 8) (sym z)) i) st.settings.patterns) st)

  prints_same : {i j : Item} → Moved i j → (mode : ℕ) → printer_bytes mode i ≡ printer_bytes mode j
  prints_same (same h) mode = refl
  prints_same (pattern c a b z) mode = refl

  copy_same : {i j : Item} → Moved i j → (st : State) → copy_of i st ≡ copy_of j st
  copy_same (same h) st = refl
  copy_same (pattern c a b z) st = refl

  -- the counts
  counted_same : {i j : Item} → Moved i j → (at n : ℕ) (a : Answer) → counted j (k + at) n (further k a) ≡ further k (counted i at n a)
  counted_same {i} (same h) at p a = go i
    where
      refusing : (r x o : ℕ) → cond (eqb r 0) (k + x) (cond (eqb r 0) o (k + o)) ≡ cond (eqb (r + 1) 0) (cond (eqb r 0) x o) (k + cond (eqb r 0) x o)
      refusing zero x o = refl
      refusing (suc r) x o =
          let e : eqb (suc r) 0 ≡ false = ne_eqb (suc r) 0 (omega arith) in
          let f : eqb (suc r + 1) 0 ≡ false = ne_eqb (suc r + 1) 0 (omega arith) in
          rw (e, f)

      go : (i : Item) → counted i (k + at) p (further k a) ≡ further k (counted i at p a)
      go (Printed c) = refl
      go (Control c) = refl
      go (Sequence q) = refl
      go (Refused n p) = λ i. record { number = a.number; taken = a.taken; accepted = a.accepted; refused = a.refused + 1; first = cond (eqb a.refused 0) n a.first; parameter = cond (eqb a.refused 0) p a.parameter; offset = refusing a.refused at a.offset i; printed = a.printed }
  counted_same (pattern c x y z) at n a = refl

  -- one item, k further on
  read_moved : (at : ℕ) (bs : List ℕ) (st : State) (room : ℕ) → let r = read at bs (limits_of st.settings) room in let r' = read (k + at) bs (limits_of st.settings) room in
      (Moved r.item r'.item) × (obeyed_by r st ≡ obeyed_by r' st)
  unfolding byte_of
  read_moved at bs st room =
      let z : Moved (judged (item_of at bs) (limits_of st.settings) room) (judged (item_of (k + at) bs) (limits_of st.settings) room) = judged_moved (item_moved at bs) (limits_of st.settings) room in
      (z, does_same z (byte_of (read at bs (limits_of st.settings) room)) (byte_of (read (k + at) bs (limits_of st.settings) room)) (λ o. let e : o - at ≡ (k + o) - (k + at) = omega arith in ap (λ (x : ℕ). get_or bs x 0) e) st)

  -- all of them: the same effect
  pub further_effect : (bss : List (List ℕ)) (at : ℕ) (st : State) (room : ℕ) → apply_all (events_of (reads_of bss (k + at) st room)) st ≡ apply_all (events_of (reads_of bss at st room)) st
  unfolding reads_of apply_all happened
  further_effect [] at st room = refl
  further_effect (bs ∷ bss) at st room =
      let z = read_moved at bs st room in
      let r : Read = read at bs (limits_of st.settings) room in
      let e : k + at + length bs ≡ k + (at + length bs) = omega arith in
      (λ i. apply_all (events_of (reads_of bss (e i) (sym z.1 i) (room - sym (prints_same z.0 st.settings.mode) i))) (sym z.1 i))
      ∙ further_effect bss (at + length bs) (obeyed_by r st) (room - r.prints)

  -- the same printer bytes
  pub further_prints : (bss : List (List ℕ)) (at : ℕ) (st : State) (room : ℕ) → copies (events_of (reads_of bss (k + at) st room)) st ≡ copies (events_of (reads_of bss at st room)) st
  unfolding reads_of copies happened
  further_prints [] at st room = refl
  further_prints (bs ∷ bss) at st room =
      let z = read_moved at bs st room in
      let r : Read = read at bs (limits_of st.settings) room in
      let e : k + at + length bs ≡ k + (at + length bs) = omega arith in
      (λ i. sym (copy_same z.0 st) i ++ copies (events_of (reads_of bss (e i) (sym z.1 i) (room - sym (prints_same z.0 st.settings.mode) i))) (sym z.1 i))
      ∙ ap (λ (l : List ℕ). copy_of r.item st ++ l) (further_prints bss (at + length bs) (obeyed_by r st) (room - r.prints))

  -- the same answer but for the offset
  pub further_counts : (bss : List (List ℕ)) (at : ℕ) (st : State) (room : ℕ) (a : Answer) → counted_all (reads_of bss (k + at) st room) (further k a) ≡ further k (counted_all (reads_of bss at st room) a)
  unfolding reads_of counted_all
  further_counts [] at st room a = refl
  further_counts (bs ∷ bss) at st room a =
      let z = read_moved at bs st room in
      let r : Read = read at bs (limits_of st.settings) room in
      let e : k + at + length bs ≡ k + (at + length bs) = omega arith in
      let p = prints_same z.0 st.settings.mode in
      let r' : Read = read (k + at) bs (limits_of st.settings) room in
      let bumped : counted r'.item (k + at) r'.prints (further k a) ≡ further k (counted r.item at r.prints a) =
      ap (λ (n : ℕ). counted r'.item (k + at) n (further k a)) (sym p) ∙ counted_same z.0 at r.prints a in
      (λ i. counted_all (reads_of bss (e i) (sym z.1 i) (room - sym (prints_same z.0 st.settings.mode) i)) (bumped i))
      ∙ further_counts bss (at + length bs) (obeyed_by r st) (room - r.prints) (counted r.item at r.prints a)
