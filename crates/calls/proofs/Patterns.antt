-- The rows of a pattern are named by their offset in the message: an item does the same with the whole message as with its
-- own bytes.
use mathlib.Core.Path.{◌∙◌, ◌≡◌, ap, refl, subst, sym}
use Prim.Native.Nat.{◌*◌, ◌+◌, ◌-◌, ◌<◌, ◌≤◌, ℕ}
use native.Mathlib.Omega.{arith}
use mathlib.Core.Bool.{Bool, ◌&&◌, cond, false, true}
use mathlib.Core.List.{List, [], ◌∷◌}
use lib.ListN.{drop, get_or, length, length-take, take}
use lib.Dec.{eqb, ltb}
use borrow.Author.Tests.{ltb-false}
use Rattle.model.specs.Picture.{copy_size_of}
use Rattle.model.specs.declared.Item.{Item}
use Rattle.model.specs.declared.Item.TheVariants.{Control, Printed, Refused, Sequence}
use Rattle.model.specs.declared.Sequence.TheVariants.{Pattern, Select}
use Rattle.model.specs.Bytes.{list_from, put}
use Rattle.model.specs.State.{State}
use Rattle.model.specs.Sequences.{idle?, Row, code_of, find, mode_row_of, mode_rows, refusal, row, row_of, rows}
use Rattle.model.specs.Reading.{after_escape, after_mode, byte_of, decoded, ended, item_of, kind_of, needed, own_bytes, unfinished?}
use Rattle.model.specs.declared.Limits.{Limits}
use Rattle.model.specs.Judging.{allowed, bad_of, fitting, judged, legal?, limits_of}
use Rattle.model.specs.Rules.{apply_item, with_kind_patterns, obeyed}
use Rattle.model.specs.Items.{obeyed_by}
use Rattle.model.proofs.Tests.{cond_at, differ, elim_at}
use Rattle.model.proofs.ByteLaws.{get_d_part, same_list_from}
use Rattle.model.proofs.Gathering.{escape_order}
use Rattle.calls.proofs.Loop.{read_at}

module _ (f g : ℕ → ℕ) where
  -- an item does the same with both
  Alike : Item → Type 0
  Alike i = (st : State) → apply_item f i st ≡ apply_item g i st

  -- a kind of sequence does, where both agree on the eight bytes behind its first parameter, if it has eleven bytes
  AlikeRow : Row → Type 0
  AlikeRow r = (p : ℕ → ℕ) (o : ℕ) (st : State) → (r.bytes ≡ 11 → list_from f (o + 1) 8 ≡ list_from g (o + 1) 8) → apply_item f (r.made p o) st ≡ apply_item g (r.made p o) st

  infixr 30 ◌▹◌
  data AlikeRows : List Row → Type 0 where
    done : AlikeRows []
    ◌▹◌ : {r : Row} {rs : List Row} → AlikeRow r → AlikeRows rs → AlikeRows (r ∷ rs)

  found_alike : (other : Row) (rs : List Row) (c : ℕ) → AlikeRow other → AlikeRows rs → AlikeRow (find other rs c)
  unfolding find
  found_alike other [] c h done = h
  found_alike other (r ∷ rs) c h (k ▹ ks) = cond_at AlikeRow (eqb c r.code) r (find other rs c) (λ e. k) (λ e. found_alike other rs c h ks)

  -- only 224 looks at the bytes
  pattern_row : AlikeRow (row 224 11 (λ p o. Pattern (p 1) (o + 1)))
  unfolding AlikeRow apply_item obeyed
  pattern_row p o st e = λ i. cond (idle? st.settings.mode 224) st (with_kind_patterns st.settings.kind (put ((p 1 - 224) * 8) (e refl i) st.settings.patterns) st)

  -- row by row, in the order of the table
  rows_alike : AlikeRows rows
  unfolding AlikeRow apply_item obeyed
  rows_alike =
      (λ p o st e. refl) ▹ (λ p o st e. refl) ▹ (λ p o st e. refl) ▹ (λ p o st e. refl) ▹ (λ p o st e. refl) ▹ (λ p o st e. refl) ▹
      (λ p o st e. refl) ▹ (λ p o st e. refl) ▹ (λ p o st e. refl) ▹ (λ p o st e. refl) ▹ (λ p o st e. refl) ▹ (λ p o st e. refl) ▹
      (λ p o st e. refl) ▹ (λ p o st e. refl) ▹ (λ p o st e. refl) ▹ (λ p o st e. refl) ▹ (λ p o st e. refl) ▹ (λ p o st e. refl) ▹
      (λ p o st e. refl) ▹ (λ p o st e. refl) ▹ (λ p o st e. refl) ▹ (λ p o st e. refl) ▹ (λ p o st e. refl) ▹ (λ p o st e. refl) ▹
      (λ p o st e. refl) ▹ (λ p o st e. refl) ▹ (λ p o st e. refl) ▹ (λ p o st e. refl) ▹ (λ p o st e. refl) ▹ (λ p o st e. refl) ▹
      (λ p o st e. refl) ▹ (λ p o st e. refl) ▹ (λ p o st e. refl) ▹ (λ p o st e. refl) ▹ (λ p o st e. refl) ▹ (λ p o st e. refl) ▹
      (λ p o st e. refl) ▹ (λ p o st e. refl) ▹ (λ p o st e. refl) ▹ (λ p o st e. refl) ▹ (λ p o st e. refl) ▹ pattern_row ▹
      (λ p o st e. refl) ▹ done

  modes_alike : AlikeRows mode_rows
  unfolding AlikeRow apply_item obeyed
  modes_alike = (λ p o st e. refl) ▹ (λ p o st e. refl) ▹ (λ p o st e. refl) ▹ (λ p o st e. refl) ▹ done

  row_alike : (c : ℕ) → AlikeRow (row_of c)
  unfolding row_of AlikeRow apply_item
  row_alike c = found_alike (refusal 0 2 10 0) rows c (λ p o st e. refl) rows_alike

  mode_alike : (c : ℕ) → AlikeRow (mode_row_of c)
  unfolding mode_row_of AlikeRow apply_item
  mode_alike c = found_alike (refusal 0 3 11 1) mode_rows c (λ p o st e. refl) modes_alike

  judged_alike : (i : Item) (s : Limits) (room : ℕ) → Alike i → Alike (judged i s room)
  unfolding allowed fitting Alike apply_item
  judged_alike (Printed c) s room h = h
  judged_alike (Control c) s room h = h
  judged_alike (Sequence q) s room h =
      cond_at (λ (i : Item). Alike (fitting s.mode i room)) (legal? q s) (Sequence q) (Refused 11 (bad_of q s))
      (λ e. cond_at Alike (eqb (code_of q) 80 && ltb room (copy_size_of s.mode)) (Refused 13 0) (Sequence q) (λ e. λ st. refl) (λ e. h)) (λ e. λ st. refl)
  judged_alike (Refused n p) s room h = h

-- the length of a whole sequence is that of its kind
kind_length : (bs : List ℕ) → eqb (get_or bs 0 0) 27 ≡ true → needed bs ≤ length bs → needed bs ≡ (kind_of bs).bytes
unfolding needed after_escape after_mode kind_of
kind_length [] e h = absurd (omega arith)
kind_length (b ∷ []) e h = absurd (no (eqb b 27) e h)
  where
    no : (t : Bool) → t ≡ true → cond t 2 1 ≤ 1 → ⊥
    no true e h = omega arith
    no false e h = differ (sym e)
kind_length (b ∷ c ∷ []) e h =
    let order : needed (b ∷ c ∷ []) ≡ cond (eqb b 27) (cond (eqb c 208) 3 (row_of c).bytes) 1 = ap (λ (n : ℕ). cond (eqb b 27) n 1) (escape_order c []) in
    order ∙ go (eqb b 27) (eqb c 208) e (subst (λ (n : ℕ). n ≤ 2) order h)
  where
    go : (t u : Bool) → t ≡ true → cond t (cond u 3 (row_of c).bytes) 1 ≤ 2 → cond t (cond u 3 (row_of c).bytes) 1 ≡ (elim u as (λ u. Row) [ true ↦ mode_row_of 0 | false ↦ row_of c ]).bytes
    go true true e h = absurd (omega arith)
    go true false e h = refl
    go false u e h = absurd (differ (sym e))
kind_length (b ∷ c ∷ k ∷ bs) e h = ap (λ (n : ℕ). cond (eqb b 27) n 1) (escape_order c (k ∷ bs)) ∙ go (eqb b 27) (eqb c 208) e
  where
    go : (t u : Bool) → t ≡ true → cond t (cond u (mode_row_of k).bytes (row_of c).bytes) 1 ≡ (elim u as (λ u. Row) [ true ↦ mode_row_of k | false ↦ row_of c ]).bytes
    go true true e = refl
    go true false e = refl
    go false u e = absurd (differ (sym e))

-- an item does the same with all bytes that agree with its own
pub same_item : (f g : ℕ → ℕ) (at : ℕ) (bs : List ℕ) (s : Limits) (room : ℕ) → ((o : ℕ) → at ≤ o → o < at + length bs → f o ≡ g o)
    → (st : State) → apply_item f (judged (item_of at bs) s room) st ≡ apply_item g (judged (item_of at bs) s room) st
unfolding Alike AlikeRow kind_of item_of unfinished? ended decoded apply_item obeyed
same_item f g at bs s room h = judged_alike f g (item_of at bs) s room whole
  where
    kind : eqb (get_or bs 0 0) 27 ≡ true → needed bs ≤ length bs → AlikeRow f g (kind_of bs) → Alike f g ((kind_of bs).made (λ n. get_or bs (n + 1) 0) (at + 2))
    kind e l k = λ st. k (λ n. get_or bs (n + 1) 0) (at + 2) st (λ z. same_list_from f g (at + 2 + 1) 8 (λ o p q. h o (omega arith) (omega (arith, kind_length bs e l, z))))

    row_of_lem : AlikeRow f g (kind_of bs)
    row_of_lem = elim_at (AlikeRow f g) (eqb (get_or bs 1 0) 208) (mode_row_of (get_or bs 2 0)) (row_of (get_or bs 1 0)) (λ e. mode_alike f g _) (λ e. row_alike f g _)

    whole : Alike f g (item_of at bs)
    whole =
        elim_at (Alike f g) (unfinished? bs) (ended bs) (decoded at bs)
        (λ e. elim_at (Alike f g) (eqb (get_or bs 1 0) 209) (Sequence (Select 0)) (Refused 12 0) (λ e. λ st. refl) (λ e. λ st. refl))
        (λ e. elim_at (Alike f g) (eqb (get_or bs 0 0) 27) _ _ (λ t. kind t (ltb-false _ _ e) row_of_lem)
        (λ t. elim_at (Alike f g) (ltb (get_or bs 0 0) 32) (Control (get_or bs 0 0)) (Printed (get_or bs 0 0)) (λ e. λ st. refl) (λ e. λ st. refl)))

module _ (m : List ℕ) where
  -- the own bytes of the item at an offset are the message's
  own_byte : (at o : ℕ) (st : State) (room : ℕ) → at ≤ o → o < at + length (own_bytes m at) → byte_of (read_at m at st room) o ≡ get_or m o 0
  unfolding byte_of own_bytes read_at
  own_byte at o st room l h =
      let e : at + (o - at) ≡ o = omega arith in
      let n : length (take (needed (drop at m)) (drop at m)) ≤ needed (drop at m) = simp length-take (omega arith) in
      get_d_part m at (needed (drop at m)) (o - at) (omega (arith, n, h)) ∙ ap (λ (k : ℕ). get_or m k 0) e

  -- one turn of the loop may look up pattern rows in the message itself
  pub obeyed_in_message : (at : ℕ) (st : State) (room : ℕ) → obeyed_by (read_at m at st room) st ≡ apply_item (λ o. get_or m o 0) (read_at m at st room).item st
  unfolding read_at
  obeyed_in_message at st room = same_item (byte_of (read_at m at st room)) (λ o. get_or m o 0) at (own_bytes m at) (limits_of st.settings) room (λ o l h. own_byte at o st room l h) st
