-- P8: reading by lengths alone. Two lists of bytes that are equal but where both have a printed character's value are cut in the same places,
-- into items that are the same or two printed characters, and leave the same bytes waiting. What is a character is judged by nothing.
use mathlib.Core.Path.{◌∙◌, ◌≡◌, ap, refl, subst, sym}
use Prim.Native.Nat.{◌+◌, ◌-◌, ◌<◌, suc, ℕ}
use native.Mathlib.Omega.{arith}
use mathlib.Core.Bool.{Bool, ◌&&◌, ◌||◌, cond, false, true}
use mathlib.Core.List.{List, [], ◌++◌, ◌∷◌, map}
use lib.ListN.{get_or, length, length-append}
use lib.Dec.{eqb, ltb}
use borrow.Author.Tests.{eqb-true, ltb-true}
use Rattle.model.specs.declared.Limits.{Limits}
use Rattle.model.specs.declared.Sequence.TheVariants.{PrintCode}
use Rattle.model.specs.declared.Item.{Item}
use Rattle.model.specs.declared.Item.TheVariants.{Control, Printed, Refused, Sequence}
use Rattle.model.specs.State.{State}
use Rattle.model.specs.Checks.{Check, free, in_ranges?, passes}
use Rattle.model.specs.Picture.{copy_size_of}
use Rattle.model.specs.Sequences.{Row, code_of, find, idle?, mode_row_of, mode_rows, refusal, row_of, rows}
use Rattle.model.specs.Reading.{Read, after_escape, decoded, ended, gathered, item_of, kind_of, lastly, needed, remaining, uncut, unfinished?}
use Rattle.model.specs.Judging.{allowed, bad_of, fitting, judged, judged_ranges, legal?, limits_of}
use Rattle.model.specs.Items.{obeyed_by, read, reads_of}
use Rattle.secrecy.specs.Secrecy.{character_at, printed_at}
use Rattle.model.proofs.Tests.{and_left, and_right, cond_at, differ, elim_at}
use Rattle.model.proofs.Gathering.{none_unfinished, remaining_unfinished}

-- a table's rows: what holds of each, by one computed equation, holds of the row that is found
found : {A : Type 0} (f g : Row → A) (o : Row) (rs : List Row) (c : ℕ) → f o ≡ g o → map f rs ≡ map g rs → f (find o rs c) ≡ g (find o rs c)
unfolding find
found f g o [] c e p = e
found f g o (r ∷ rs) c e p =
    let h : f r ≡ g r = cc in
    let t : map f rs ≡ map g rs = cc in
    cond_at (λ (x : Row). f x ≡ g x) (eqb c r.code) r (find o rs c) (λ z. h) (λ z. found f g o rs c e t)

found_code : (n : ℕ) (o : Row) (rs : List Row) (c : ℕ) → (o.code ≡ n → ⊥) → (find o rs c).code ≡ n → c ≡ n
unfolding find
found_code n o [] c h = λ e. absurd (h e)
found_code n o (r ∷ rs) c h = cond_at (λ (x : Row). x.code ≡ n → c ≡ n) (eqb c r.code) r (find o rs c) (λ z e. eqb-true _ _ z ∙ e) (λ z. found_code n o rs c h)

-- of the table of lengths only 37's row makes a character, at its parameter; of 208's none does
row-character : (c : ℕ) (p : ℕ → ℕ) (a at o : ℕ) → character_at ((row_of c).made p a) at o ≡ (eqb (row_of c).code 37 && eqb o (at + 2))
unfolding row_of
row-character c p a at o = ap (λ (f : (ℕ → ℕ) → ℕ → ℕ → ℕ → Bool). f p a at o)
    (found (λ (r : Row) p a at o. character_at (r.made p a) at o) (λ (r : Row) p a at o. eqb r.code 37 && eqb o (at + 2)) (refusal 0 2 10 0) rows c refl refl)

mode_character : (k : ℕ) (p : ℕ → ℕ) (a at o : ℕ) → character_at ((mode_row_of k).made p a) at o ≡ false
unfolding mode_row_of
mode_character k p a at o = ap (λ (f : (ℕ → ℕ) → ℕ → ℕ → ℕ → Bool). f p a at o)
    (found (λ (r : Row) p a at o. character_at (r.made p a) at o) (λ (r : Row) p a at o. false) (refusal 0 3 11 1) mode_rows k refl refl)

row_37 : (c : ℕ) → eqb (row_of c).code 37 ≡ true → c ≡ 37
unfolding row_of
row_37 c e = found_code 37 (refusal 0 2 10 0) rows c (λ z. omega arith) (eqb-true _ _ e)

made_37 : (p : ℕ → ℕ) (a : ℕ) → (row_of 37).made p a ≡ Sequence (PrintCode (p 1))
unfolding row_of find
made_37 p a = refl

-- the bytes of a printed character, and which of them is its value
data Character (bs : List ℕ) (at o : ℕ) (i : Item) : Type 0 where
  byte : i ≡ Printed (get_or bs 0 0) → eqb (get_or bs 0 0) 27 ≡ false → ltb (get_or bs 0 0) 32 ≡ false → o ≡ at → Character bs at o i
  code : i ≡ Sequence (PrintCode (get_or bs 2 0)) → get_or bs 0 0 ≡ 27 → get_or bs 1 0 ≡ 37 → o ≡ at + 2 → Character bs at o i

ended_quiet : (bs : List ℕ) (at o : ℕ) → character_at (ended bs) at o ≡ false
unfolding ended
ended_quiet bs at o = elim_at (λ (i : Item). character_at i at o ≡ false) (eqb (get_or bs 1 0) 209) _ _ (λ e. refl) (λ e. refl)

character : (bs : List ℕ) (at o : ℕ) → character_at (item_of at bs) at o ≡ true → Character bs at o (item_of at bs)
unfolding item_of decoded kind_of
character bs at o =
    elim_at P (unfinished? bs) _ _ (λ e f. absurd (differ (sym f ∙ ended_quiet bs at o)))
    (λ e. elim_at P (eqb (get_or bs 0 0) 27) _ _
    (λ e. elim_at (λ (r : Row). P (r.made (λ n. get_or bs (n + 1) 0) (at + 2))) (eqb (get_or bs 1 0) 208) _ _
    (λ g f. absurd (differ (sym f ∙ mode_character (get_or bs 2 0) (λ n. get_or bs (n + 1) 0) (at + 2) at o)))
    (λ g f. sequence (eqb-true _ _ e) (sym (row-character (get_or bs 1 0) (λ n. get_or bs (n + 1) 0) (at + 2) at o) ∙ f)))
    (λ e. elim_at P (ltb (get_or bs 0 0) 32) _ _ (λ g f. absurd (differ (sym f))) (λ g f. byte refl e g (eqb-true _ _ f))))
  where
    P : Item → Type 0
    P i = character_at i at o ≡ true → Character bs at o i

    sequence : get_or bs 0 0 ≡ 27 → (eqb (row_of (get_or bs 1 0)).code 37 && eqb o (at + 2)) ≡ true → Character bs at o ((row_of (get_or bs 1 0)).made (λ n. get_or bs (n + 1) 0) (at + 2))
    sequence e f =
        let c : get_or bs 1 0 ≡ 37 = row_37 (get_or bs 1 0) (and_left _ (eqb o (at + 2)) f) in
        code (ap (λ (n : ℕ). (row_of n).made (λ n. get_or bs (n + 1) 0) (at + 2)) c ∙ made_37 (λ n. get_or bs (n + 1) 0) (at + 2)) e c (eqb-true _ _ (and_right (eqb (row_of (get_or bs 1 0)).code 37) _ f))

-- it is judged by nothing: no range, no room
judged_quiet : (i : Item) (at o : ℕ) (s : Limits) (room : ℕ) → character_at i at o ≡ false → character_at (judged i s room) at o ≡ false
unfolding allowed fitting
judged_quiet (Printed c) at o s room e = e
judged_quiet (Control c) at o s room e = refl
judged_quiet (Sequence q) at o s room e =
    cond_at (λ (i : Item). character_at (fitting s.mode i room) at o ≡ false) (legal? q s) (Sequence q) (Refused 11 (bad_of q s))
    (λ z. cond_at (λ (i : Item). character_at i at o ≡ false) (eqb (code_of q) 80 && ltb room (copy_size_of s.mode)) (Refused 13 0) (Sequence q) (λ z. refl) (λ z. e)) (λ z. refl)
judged_quiet (Refused n p) at o s room e = refl

judged_byte : (c : ℕ) (s : Limits) (room : ℕ) → judged (Printed c) s room ≡ Printed c
unfolding allowed fitting
judged_byte c s room = refl

legal_code : (c : ℕ) (s : Limits) → legal? (PrintCode c) s ≡ true
unfolding legal? judged_ranges in_ranges? passes
legal_code c s = cond_at (λ (l : List Check). in_ranges? l ≡ true) (idle? s.mode 37) [] (free ∷ []) (λ e. refl) (λ e. refl)

pub judged_code : (c : ℕ) (s : Limits) (room : ℕ) → judged (Sequence (PrintCode c)) s room ≡ Sequence (PrintCode c)
unfolding allowed fitting
judged_code c s room = ap (λ (b : Bool). fitting s.mode (cond b (Sequence (PrintCode c)) (Refused 11 (bad_of (PrintCode c) s))) room) (legal_code c s)

judged-character : (at : ℕ) (bs : List ℕ) (o : ℕ) (s : Limits) (room : ℕ) → character_at (judged (item_of at bs) s room) at o ≡ character_at (item_of at bs) at o
judged-character at bs o s room = go (character_at (item_of at bs) at o) refl
  where
    same : {i : Item} → Character bs at o i → judged i s room ≡ i
    same (byte e f g h) = ap (λ (i : Item). judged i s room) e ∙ judged_byte _ s room ∙ sym e
    same (code e f g h) = ap (λ (i : Item). judged i s room) e ∙ judged_code _ s room ∙ sym e

    go : (b : Bool) → character_at (item_of at bs) at o ≡ b → character_at (judged (item_of at bs) s room) at o ≡ character_at (item_of at bs) at o
    go true e = ap (λ (i : Item). character_at i at o) (same (character bs at o e))
    go false e = judged_quiet (item_of at bs) at o s room e ∙ sym e

-- byte o is a character's value, by the bytes of the items alone
unfoldable pub value_at : List (List ℕ) → ℕ → ℕ → Bool
value_at [] at o = false
value_at (bs ∷ bss) at o = character_at (item_of at bs) at o || value_at bss (at + length bs) o

pub printed_value : (bss : List (List ℕ)) (at : ℕ) (st : State) (room o : ℕ) → printed_at (reads_of bss at st room) o ≡ value_at bss at o
unfolding printed_at reads_of value_at
printed_value [] at st room o = refl
printed_value (bs ∷ bss) at st room o =
    let r : Read = read at bs (limits_of st.settings) room in
    λ i. judged-character at bs o (limits_of st.settings) room i || printed_value bss (at + length bs) (obeyed_by r st) (room - r.prints) o i

-- a character ends with its value: what waited before it was nothing, or 27, 37
data Ending (w : List ℕ) (b : ℕ) : Type 0 where
  byte : w ≡ [] → eqb b 27 ≡ false → ltb b 32 ≡ false → Ending w b
  code : w ≡ 27 ∷ 37 ∷ [] → Ending w b

only_escape : (x : ℕ) (xs : List ℕ) → unfinished? (x ∷ xs) ≡ true → eqb x 27 ≡ false → ⊥
unfolding unfinished? needed
only_escape x xs u e = let h : suc (length xs) < 1 = ltb-true _ _ (ap (λ (b : Bool). ltb (suc (length xs)) (cond b (after_escape xs) 1)) (sym e) ∙ u) in omega (arith, h)

whole_37 : (xs : List ℕ) → unfinished? (27 ∷ 37 ∷ xs) ≡ ltb (suc (suc (length xs))) 3
unfolding unfinished? needed after_escape find
whole_37 xs = refl

ending : (w : List ℕ) (b at o : ℕ) → unfinished? w ≡ true → unfinished? (w ++ (b ∷ [])) ≡ false → {i : Item} → Character (w ++ (b ∷ [])) at o i → (o ≡ at + length w) × Ending w b
ending [] b at o u v (byte e f g h) = (omega arith, byte refl f g)
ending [] b at o u v (code e f g h) = absurd (omega arith)
ending (x ∷ w) b at o u v (byte e f g h) = absurd (only_escape x w u f)
ending (x ∷ []) b at o u v (code e f g h) = absurd (differ (sym (whole_37 []) ∙ (λ i. unfinished? (sym f i ∷ sym g i ∷ [])) ∙ v))
ending (x ∷ y ∷ []) b at o u v (code e f g h) = (omega arith, code (λ i. f i ∷ g i ∷ []))
ending (x ∷ y ∷ z ∷ w) b at o u v (code e f g h) =
    let k : suc (suc (suc (length w))) < 3 = ltb-true _ _ (sym (whole_37 (z ∷ w)) ∙ (λ i. unfinished? (sym f i ∷ sym g i ∷ z ∷ w)) ∙ u) in
    absurd (omega (arith, k))

-- no other byte of an item is one
module _ (w : List ℕ) (b at : ℕ) (u : unfinished? w ≡ true) (v : unfinished? (w ++ (b ∷ [])) ≡ false) where
  other : (o : ℕ) → (o ≡ at + length w → ⊥) → character_at (item_of at (w ++ (b ∷ []))) at o ≡ false
  other o n = go (character_at (item_of at (w ++ (b ∷ []))) at o) refl
    where
      go : (t : Bool) → character_at (item_of at (w ++ (b ∷ []))) at o ≡ t → character_at (item_of at (w ++ (b ∷ []))) at o ≡ false
      go true e = absurd (n (ending w b at o u v (character (w ++ (b ∷ [])) at o e)).0)
      go false e = e

-- a byte more: it waits too, or an item is whole
module _ (w : List ℕ) (b : ℕ) (bs : List ℕ) where
  waits : unfinished? (w ++ (b ∷ [])) ≡ true → (gathered w (b ∷ bs) ≡ gathered (w ++ (b ∷ [])) bs) × (remaining w (b ∷ bs) ≡ remaining (w ++ (b ∷ [])) bs)
  unfolding gathered remaining
  waits e = (
    ap (λ (t : Bool). elim t as (λ t. List (List ℕ)) [ true ↦ gathered (w ++ (b ∷ [])) bs | false ↦ (w ++ (b ∷ [])) ∷ gathered [] bs ]) e,
    ap (λ (t : Bool). elim t as (λ t. List ℕ) [ true ↦ remaining (w ++ (b ∷ [])) bs | false ↦ remaining [] bs ]) e,
  )

  whole : unfinished? (w ++ (b ∷ [])) ≡ false → (gathered w (b ∷ bs) ≡ (w ++ (b ∷ [])) ∷ gathered [] bs) × (remaining w (b ∷ bs) ≡ remaining [] bs)
  unfolding gathered remaining
  whole e = (
    ap (λ (t : Bool). elim t as (λ t. List (List ℕ)) [ true ↦ gathered (w ++ (b ∷ [])) bs | false ↦ (w ++ (b ∷ [])) ∷ gathered [] bs ]) e,
    ap (λ (t : Bool). elim t as (λ t. List ℕ) [ true ↦ remaining (w ++ (b ∷ [])) bs | false ↦ remaining [] bs ]) e,
  )

  one_more : length (w ++ (b ∷ [])) ≡ suc (length w)
  one_more = simp length-append (omega arith)

-- no byte that waited is one
early : (w m : List ℕ) (at o : ℕ) → unfinished? w ≡ true → o < at + length w → value_at (gathered w m) at o ≡ false
unfolding value_at gathered
early w [] at o u h = refl
early w (b ∷ bs) at o u h =
    let l : length (w ++ (b ∷ [])) ≡ suc (length w) = one_more w b bs in
    elim_at (λ (xs : List (List ℕ)). value_at xs at o ≡ false) (unfinished? (w ++ (b ∷ []))) (gathered (w ++ (b ∷ [])) bs) ((w ++ (b ∷ [])) ∷ gathered [] bs)
    (λ e. early (w ++ (b ∷ [])) bs at o e (omega (arith, l, h)))
    (λ e. (λ i. other w b at u e o (λ z. omega (arith, z, h)) i || early [] bs (at + length (w ++ (b ∷ []))) o none_unfinished (omega (arith, l, h)) i))

-- the values behind the first byte are those of what follows
module _ (w : List ℕ) (b : ℕ) (bs : List ℕ) (at i : ℕ) (u : unfinished? w ≡ true) where
  past_wait : unfinished? (w ++ (b ∷ [])) ≡ true → value_at (gathered w (b ∷ bs)) at (at + length w + suc i) ≡ value_at (gathered (w ++ (b ∷ [])) bs) at (at + length (w ++ (b ∷ [])) + i)
  past_wait e =
      let p : at + length w + suc i ≡ at + length (w ++ (b ∷ [])) + i = omega (arith, one_more w b bs) in
      λ j. value_at ((waits w b bs e).0 j) at (p j)

  past_whole : unfinished? (w ++ (b ∷ [])) ≡ false
      → value_at (gathered w (b ∷ bs)) at (at + length w + suc i) ≡ value_at (gathered [] bs) (at + length (w ++ (b ∷ []))) (at + length (w ++ (b ∷ [])) + length {A = ℕ} [] + i)
  unfolding value_at
  past_whole e =
      let n : ℕ = at + length (w ++ (b ∷ [])) in
      let p : at + length w + suc i ≡ n + length {A = ℕ} [] + i = omega (arith, one_more w b bs) in
      (λ j. value_at ((whole w b bs e).0 j) at (at + length w + suc i))
      ∙ (λ j. other w b at u e (at + length w + suc i) (λ z. omega (arith, z)) j || value_at (gathered [] bs) n (p j))

-- the first byte is one: then it ends an item
module _ (w : List ℕ) (b : ℕ) (bs : List ℕ) (at : ℕ) (u : unfinished? w ≡ true) (h : value_at (gathered w (b ∷ bs)) at (at + length w + 0) ≡ true) where
  first_ends : (unfinished? (w ++ (b ∷ [])) ≡ false) × Ending w b
  unfolding value_at
  first_ends = go (unfinished? (w ++ (b ∷ []))) refl
    where
      o : ℕ
      o = at + length w + 0

      n : ℕ
      n = at + length (w ++ (b ∷ []))

      or_none : (x y : Bool) → y ≡ false → (x || y) ≡ true → x ≡ true
      or_none true y e f = refl
      or_none false y e f = absurd (differ (sym f ∙ e))

      go : (t : Bool) → unfinished? (w ++ (b ∷ [])) ≡ t → (unfinished? (w ++ (b ∷ [])) ≡ false) × Ending w b
      go true e = absurd (differ (sym h ∙ ap (λ (xs : List (List ℕ)). value_at xs at o) (waits w b bs e).0 ∙ early (w ++ (b ∷ [])) bs at o e (omega (arith, one_more w b bs))))
      go false e =
          let r : value_at (gathered [] bs) n o ≡ false = early [] bs n o none_unfinished (omega (arith, one_more w b bs)) in
          let c : character_at (item_of at (w ++ (b ∷ []))) at o ≡ true = or_none _ _ r (ap (λ (xs : List (List ℕ)). value_at xs at o) (sym (whole w b bs e).0) ∙ h) in
          (e, (ending w b at o u e (character (w ++ (b ∷ [])) at o c)).1)

-- two items' bytes: the same, or printed characters, by a byte each or by 37
pub data Twin : List ℕ → List ℕ → Type 0 where
  same : {bs : List ℕ} → Twin bs bs
  bytes : {c d : ℕ} → eqb c 27 ≡ false → ltb c 32 ≡ false → eqb d 27 ≡ false → ltb d 32 ≡ false → Twin (c ∷ []) (d ∷ [])
  codes : {c d : ℕ} → Twin (27 ∷ 37 ∷ c ∷ []) (27 ∷ 37 ∷ d ∷ [])

pub data Twins : List (List ℕ) → List (List ℕ) → Type 0 where
  none : Twins [] []
  more : {x y : List ℕ} {xs ys : List (List ℕ)} → Twin x y → Twins xs ys → Twins (x ∷ xs) (y ∷ ys)

twin_of : (w : List ℕ) (b d : ℕ) → Ending w b → Ending w d → Twin (w ++ (b ∷ [])) (w ++ (d ∷ []))
twin_of w b d (byte e p q) (byte f r s) = subst (λ (w : List ℕ). Twin (w ++ (b ∷ [])) (w ++ (d ∷ []))) (sym e) (bytes p q r s)
twin_of w b d (byte e p q) (code f) = let z : ◌≡◌ {A = List ℕ} [] (27 ∷ 37 ∷ []) = sym e ∙ f in let z₂ : ◌≡◌ {A = ℕ} 0 2 = ap length z in absurd (omega (arith, z₂))
twin_of w b d (code e) f = subst (λ (w : List ℕ). Twin (w ++ (b ∷ [])) (w ++ (d ∷ []))) (sym e) codes

-- equal but where both have a character's value
abbrev pub Agree : List ℕ → List ℕ → List ℕ → ℕ → Type 0
Agree w m₁ m₂ at = (i : ℕ) → (value_at (gathered w m₁) at (at + length w + i) && value_at (gathered w m₂) at (at + length w + i)) ≡ false → get_or m₁ i 0 ≡ get_or m₂ i 0

-- read in step
abbrev pub InStep : List ℕ → List ℕ → List ℕ → Type 0
InStep w m₁ m₂ = Twins (gathered w m₁) (gathered w m₂) × (remaining w m₁ ≡ remaining w m₂)

abbrev Steps : List ℕ → Type 0
Steps bs = (w ds : List ℕ) (at : ℕ) → unfinished? w ≡ true → length bs ≡ length ds → Agree w bs ds at → InStep w bs ds

module _ (w : List ℕ) (b d : ℕ) (bs ds : List ℕ) (at : ℕ) (steps : Steps bs) (u : unfinished? w ≡ true) (l : length bs ≡ length ds) (a : Agree w (b ∷ bs) (d ∷ ds) at) where
  -- an item is whole on both sides
  both_whole : unfinished? (w ++ (b ∷ [])) ≡ false → unfinished? (w ++ (d ∷ [])) ≡ false → Twin (w ++ (b ∷ [])) (w ++ (d ∷ [])) → InStep w (b ∷ bs) (d ∷ ds)
  both_whole e f t =
      let n : ℕ = at + length (w ++ (b ∷ [])) in
      let k : at + length (w ++ (d ∷ [])) ≡ n = omega (arith, one_more w b bs, one_more w d ds) in
      let z : InStep [] bs ds = steps [] ds n none_unfinished l
      (λ i h. a (suc i) ((λ j. past_whole w b bs at i u e j && (past_whole w d ds at i u f ∙ (λ j. value_at (gathered [] ds) (k j) (k j + length {A = ℕ} [] + i))) j) ∙ h)) in (
        subst (λ (xs : List (List ℕ)). Twins xs (gathered w (d ∷ ds))) (sym (whole w b bs e).0) (subst (Twins _) (sym (whole w d ds f).0) (more t z.0)),
        (whole w b bs e).1 ∙ z.1 ∙ sym (whole w d ds f).1,
      )

  -- both wait, for the same byte
  both_wait : b ≡ d → unfinished? (w ++ (b ∷ [])) ≡ true → InStep w (b ∷ bs) (d ∷ ds)
  both_wait q e =
      let f : unfinished? (w ++ (d ∷ [])) ≡ true = ap (λ (x : ℕ). unfinished? (w ++ (x ∷ []))) (sym q) ∙ e in
      let v : w ++ (d ∷ []) ≡ w ++ (b ∷ []) = ap (λ (x : ℕ). w ++ (x ∷ [])) (sym q) in
      let z : InStep (w ++ (b ∷ [])) bs ds = steps (w ++ (b ∷ [])) ds at e l
      (λ i h. a (suc i) ((λ j. past_wait w b bs at i u e j && (past_wait w d ds at i u f ∙ (λ j. value_at (gathered (v j) ds) at (at + length (v j) + i))) j) ∙ h)) in (
        subst (λ (xs : List (List ℕ)). Twins xs (gathered w (d ∷ ds))) (sym (waits w b bs e).0) (subst (Twins _) (sym ((waits w d ds f).0 ∙ ap (λ (x : List ℕ). gathered x ds) v)) z.0),
        (waits w b bs e).1 ∙ z.1 ∙ sym ((waits w d ds f).1 ∙ ap (λ (x : List ℕ). remaining x ds) v),
      )

  one_byte : InStep w (b ∷ bs) (d ∷ ds)
  one_byte = go (value_at (gathered w (b ∷ bs)) at (at + length w + 0) && value_at (gathered w (d ∷ ds)) at (at + length w + 0)) refl
    where
      equal : b ≡ d → (t : Bool) → unfinished? (w ++ (b ∷ [])) ≡ t → InStep w (b ∷ bs) (d ∷ ds)
      equal q true e = both_wait q e
      equal q false e = both_whole e (ap (λ (x : ℕ). unfinished? (w ++ (x ∷ []))) (sym q) ∙ e) (subst (λ (x : ℕ). Twin (w ++ (b ∷ [])) (w ++ (x ∷ []))) q same)

      go : (t : Bool) → (value_at (gathered w (b ∷ bs)) at (at + length w + 0) && value_at (gathered w (d ∷ ds)) at (at + length w + 0)) ≡ t → InStep w (b ∷ bs) (d ∷ ds)
      go true e =
          let x = first_ends w b bs at u (and_left _ (value_at (gathered w (d ∷ ds)) at (at + length w + 0)) e) in
          let y = first_ends w d ds at u (and_right (value_at (gathered w (b ∷ bs)) at (at + length w + 0)) _ e) in
          both_whole x.0 y.0 (twin_of w b d x.1 y.1)
      go false e = equal (a 0 e) (unfinished? (w ++ (b ∷ []))) refl

pub in_step : (bs : List ℕ) → Steps bs
unfolding gathered remaining
in_step [] w [] at u l a = (none, refl)
in_step [] w (d ∷ ds) at u l a = absurd (omega arith)
in_step (b ∷ bs) w [] at u l a = absurd (omega arith)
in_step (b ∷ bs) w (d ∷ ds) at u l a = one_byte w b d bs ds at (in_step bs) u (omega arith) a

-- what waits at an end is no character, and the same
last_quiet : (w : List ℕ) (at o : ℕ) → unfinished? w ≡ true → value_at (lastly w) at o ≡ false
unfolding value_at item_of
last_quiet [] at o u = refl
last_quiet (b ∷ bs) at o u =
    let e : character_at (item_of at (b ∷ bs)) at o ≡ false = elim_at (λ (i : Item). character_at i at o ≡ false) (unfinished? (b ∷ bs)) _ _ (λ e. ended_quiet (b ∷ bs) at o) (λ e. absurd (differ (sym u ∙ e))) in
    λ i. e i || false

value_last : (xs : List (List ℕ)) (w : List ℕ) (at o : ℕ) → unfinished? w ≡ true → value_at (xs ++ lastly w) at o ≡ value_at xs at o
unfolding value_at
value_last [] w at o u = last_quiet w at o u
value_last (x ∷ xs) w at o u = ap (λ (t : Bool). character_at (item_of at x) at o || t) (value_last xs w (at + length x) o u)

pub twins_self : (xs : List (List ℕ)) → Twins xs xs
twins_self [] = none
twins_self (x ∷ xs) = more same (twins_self xs)

twins_last : {xs ys : List (List ℕ)} (v w : List ℕ) → v ≡ w → Twins xs ys → Twins (xs ++ lastly v) (ys ++ lastly w)
twins_last v w e none = subst (λ (x : List ℕ). Twins (lastly v) (lastly x)) e (twins_self (lastly v))
twins_last v w e (more t ts) = more t (twins_last v w e ts)

-- a whole message: equal but where both have a character's value, two are read in step to their ends
pub whole-step : (m₁ m₂ : List ℕ) → length m₁ ≡ length m₂ → ((i : ℕ) → (value_at (uncut m₁) 0 i && value_at (uncut m₂) 0 i) ≡ false → get_or m₁ i 0 ≡ get_or m₂ i 0) → Twins (uncut m₁) (uncut m₂)
whole-step m₁ m₂ l a =
    let z : InStep [] m₁ m₂ = in_step m₁ [] m₂ 0 none_unfinished l (λ i e. a i ((λ j. sym (quiet m₁ i) j && sym (quiet m₂ i) j) ∙ e)) in
    twins_last (remaining [] m₁) (remaining [] m₂) z.1 z.0
  where
    quiet : (m : List ℕ) (i : ℕ) → value_at (gathered [] m) 0 (0 + length {A = ℕ} [] + i) ≡ value_at (uncut m) 0 i
    quiet m i =
        let p : 0 + length {A = ℕ} [] + i ≡ i = omega arith in
        ap (value_at (gathered [] m) 0) p ∙ sym (value_last (gathered [] m) (remaining [] m) 0 i (remaining_unfinished [] m none_unfinished))
