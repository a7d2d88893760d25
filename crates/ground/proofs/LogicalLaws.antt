-- P5, the marks of one screen as a number: what joining, cutting off and shifting makes of them, line by line, and the search for the first
-- unmarked line.
use mathlib.Core.Path.{◌∙◌, ◌≡◌, ap, refl, sym}
use Prim.Native.Nat.{◌%◌, ◌*◌, ◌+◌, ◌-◌, ◌/◌, ◌<◌, ◌^◌, ◌≤◌, max, suc, zero, ℕ}
use native.Mathlib.Nat.{add-zero, lt_of_lt_of_le, max-zero, mod-lt, zero-max}
use native.Mathlib.Omega.{arith}
use mathlib.Core.Bool.{Bool, ◌&&◌, ◌||◌, cond, false, not, true}
use mathlib.Core.List.{List}
use lib.Bits.{bit_or, or_lt}
use lib.Pow.{pow-lt, pow_mono, pow_pos}
use lib.ListN.{get_or, length, length-set, set}
use lib.Seq.{get_or-set_same, set-get_or, set-set}
use lib.Dec.{eqb, leb, ltb}
use borrow.Author.Tests.{eq-eqb, eqb-false, eqb-true, le-leb, le-ltb, leb-false, leb-true, lt-leb, lt-ltb, ltb-false, ltb-true, ne_eqb}
use Rattle.model.specs.Marks.{end_of, end_unmarked, mark_in, marks_down, marks_up, running, running_on, unmarked_from}
use Rattle.model.proofs.Numbering.{bit_down, bit_low, bit_new, bit_off, bit_or_lem, bit_up}
use Rattle.model.proofs.Tests.{differ}
use Rattle.ground.specs.Logical.{Remarks}

-- the mark of a line in what was moved: below the first bit that it has there, and from that on
moved_new : (x off to l : ℕ) → 1 ≤ l → l ≤ 64 → l ≤ to → mark_in (x / 2 ^ off * 2 ^ to % 2 ^ 64) l ≡ 0
moved_new x off to l p q h = bit_low (x / 2 ^ off * 2 ^ to) 64 (l - 1) (omega arith) ∙ bit_new (x / 2 ^ off) to (l - 1) (omega arith)

moved_mark : (x off to l k : ℕ) → 1 ≤ l → l ≤ 64 → to < l → 1 ≤ k → k + to ≡ l + off → mark_in (x / 2 ^ off * 2 ^ to % 2 ^ 64) l ≡ mark_in x k
moved_mark x off to l k p q h o e =
    let z : off + (l - 1 - to) ≡ k - 1 = omega arith in
    bit_low (x / 2 ^ off * 2 ^ to) 64 (l - 1) (omega arith) ∙ bit_up (x / 2 ^ off) to (l - 1) (omega arith) ∙ bit_down x off (l - 1 - to) ∙ ap (λ (i : ℕ). x / 2 ^ i % 2) z

-- in the lowest bits
low_mark : (x count l : ℕ) → 1 ≤ l → l ≤ count → mark_in (x % 2 ^ count) l ≡ mark_in x l
low_mark x count l p h = bit_low x count (l - 1) (omega arith)

low_none : (x count l : ℕ) → count < l → mark_in (x % 2 ^ count) l ≡ 0
low_none x count l h = bit_off x count (l - 1) (omega arith)

low_fits : (x count : ℕ) → count ≤ 64 → x % 2 ^ count < 2 ^ 64
low_fits x count h = lt_of_lt_of_le (mod-lt x (pow_pos count)) (pow_mono {i = count} {j = 64} h)

-- in numbers joined, all but one of which have it 0
left_alone : (x y l : ℕ) → mark_in y l ≡ 0 → mark_in (bit_or x y) l ≡ mark_in x l
left_alone x y l e = bit_or_lem x y (l - 1) ∙ ap (max (mark_in x l)) e ∙ max-zero (mark_in x l)

right_alone : (x y l : ℕ) → mark_in x l ≡ 0 → mark_in (bit_or x y) l ≡ mark_in y l
right_alone x y l e = bit_or_lem x y (l - 1) ∙ ap (λ (n : ℕ). max n (mark_in y l)) e ∙ zero-max (mark_in y l)

-- a mark set
one_bit : (line l : ℕ) → 1 ≤ line → 1 ≤ l → mark_in (2 ^ (line - 1)) l ≡ cond (eqb l line) 1 0
one_bit line l p q = go (eqb l line) refl (ltb l line) refl
  where
    alone : 2 ^ (line - 1) ≡ 1 * 2 ^ (line - 1)
    alone = omega arith

    go : (x : Bool) → eqb l line ≡ x → (y : Bool) → ltb l line ≡ y → mark_in (2 ^ (line - 1)) l ≡ cond (eqb l line) 1 0
    go true e y d =
        let z : l - 1 - (line - 1) ≡ 0 = omega (arith, eqb-true l line e) in
        let h : line - 1 ≤ l - 1 = omega (arith, eqb-true l line e) in
        rw e (ap (λ (n : ℕ). mark_in n l) alone ∙ bit_up 1 (line - 1) (l - 1) h ∙ ap (λ (i : ℕ). 1 / 2 ^ i % 2) z)
    go false e true d = rw e (ap (λ (n : ℕ). mark_in n l) alone ∙ bit_new 1 (line - 1) (l - 1) (omega (arith, ltb-true l line d)))
    go false e false d =
        let n : (l ≡ line → ⊥) = eqb-false l line e in
        let h : line ≤ l = ltb-false l line d in
        let i : ℕ = l - 1 - (line - 1) - 1 in
        let z : l - 1 - (line - 1) ≡ 1 + i = omega arith in
        let k : line - 1 ≤ l - 1 = omega arith in
        rw e (ap (λ (n : ℕ). mark_in n l) alone ∙ bit_up 1 (line - 1) (l - 1) k ∙ ap (λ (j : ℕ). 1 / 2 ^ j % 2) z ∙ bit_off 1 1 (1 + i) (omega arith))

pub run_on_made : {k x v b : ℕ} {ms : List ℕ} (line : ℕ) → 1 ≤ line → line ≤ 48 → x ≡ get_or ms k 0 → b ≡ 2 ^ (line - 1) → v ≡ bit_or x b → x < 2 ^ 64 → Remarks k (running_on line) ms (set ms k v)
unfolding running_on
run_on_made {k} {x} {v} {b} {ms} line p q e d j small = record {
  number = v;
  stored = refl;
  fits = rw (j, d) (or_lt 64 x (2 ^ (line - 1)) small (pow-lt {i = line - 1} {j = 64} (omega arith)));
  lines = λ l u w. ap (λ (n : ℕ). mark_in n l) (j ∙ ap (bit_or x) d) ∙ go l u (eqb l line) refl ∙ (λ i. cond (eqb l line) 1 (mark_in (e i) l));
}
  where
    go : (l : ℕ) → 1 ≤ l → (t : Bool) → eqb l line ≡ t → mark_in (bit_or x (2 ^ (line - 1))) l ≡ cond (eqb l line) 1 (mark_in x l)
    go l u true t = rw t (bit_or_lem x (2 ^ (line - 1)) (l - 1) ∙ ap (max (mark_in x l)) (one_bit line l p u ∙ ap (λ (c : Bool). cond c 1 0) t) ∙ omega arith)
    go l u false t = rw t (left_alone x (2 ^ (line - 1)) l (one_bit line l p u ∙ ap (λ (c : Bool). cond c 1 0) t))

-- none from one line through another
pub unmark_made : {k x v h o : ℕ} {ms : List ℕ} (from to : ℕ) → 1 ≤ from → from ≤ to → to ≤ 48 → x ≡ get_or ms k 0 → h ≡ x / 2 ^ to * 2 ^ to % 2 ^ 64 → o ≡ x % 2 ^ (from - 1) → v ≡ bit_or h o
    → Remarks k (unmarked_from from to) ms (set ms k v)
unfolding unmarked_from
unmark_made {k} {x} {v} {h} {o} {ms} from to p q r e eh eo j = record {
  number = v;
  stored = refl;
  fits = rw (j, eh, eo) (or_lt 64 (x / 2 ^ to * 2 ^ to % 2 ^ 64) (x % 2 ^ (from - 1)) (mod-lt (x / 2 ^ to * 2 ^ to) (pow_pos 64)) (low_fits x (from - 1) (omega arith)));
  lines = λ l u w. ap (λ (n : ℕ). mark_in n l) (j ∙ (λ i. bit_or (eh i) (eo i))) ∙ go l u w (leb from l) refl (leb l to) refl ∙ (λ i. cond (leb from l && leb l to) 0 (mark_in (e i) l));
}
  where
    go : (l : ℕ) → 1 ≤ l → l ≤ 64 → (s : Bool) → leb from l ≡ s → (t : Bool) → leb l to ≡ t → mark_in (bit_or (x / 2 ^ to * 2 ^ to % 2 ^ 64) (x % 2 ^ (from - 1))) l ≡ cond (leb from l && leb l to) 0 (mark_in x l)
    go l u w false s t z =
        let y : l < from = leb-false from l s in
        rw s (right_alone (x / 2 ^ to * 2 ^ to % 2 ^ 64) (x % 2 ^ (from - 1)) l (moved_new x to to l u w (omega arith)) ∙ low_mark x (from - 1) l u (omega arith))
    go l u w true s true z = rw (s, z) (left_alone (x / 2 ^ to * 2 ^ to % 2 ^ 64) (x % 2 ^ (from - 1)) l (low_none x (from - 1) l (omega (arith, leb-true from l s))) ∙ moved_new x to to l u w (leb-true l to z))
    go l u w true s false z =
        let y : to < l = leb-false l to z in
        rw (s, z) (left_alone (x / 2 ^ to * 2 ^ to % 2 ^ 64) (x % 2 ^ (from - 1)) l (low_none x (from - 1) l (omega arith)) ∙ moved_mark x to to l l u w y u refl)

-- what 144 and 145 make of the mark of a line: outside the region, in it
module _ (a n : ℕ) (m : ℕ → ℕ) (l : ℕ) where
  up_low : l ≤ a → marks_up a n m l ≡ m l
  unfolding marks_up
  up_low h = rw (le-ltb a l h)

  up_high : a + n < l → marks_up a n m l ≡ m l
  unfolding marks_up
  up_high h = rw (lt-ltb a l (omega arith), lt-leb l (a + n) h)

  up_in : a < l → l < a + n → marks_up a n m l ≡ m (l + 1)
  unfolding marks_up
  up_in h k = rw (lt-ltb a l h, le-leb l (a + n) (omega arith), lt-ltb l (a + n) k)

  up_last : a < l → l ≡ a + n → marks_up a n m l ≡ 0
  unfolding marks_up
  up_last h k = rw (lt-ltb a l h, le-leb l (a + n) (omega arith), le-ltb l (a + n) (omega arith))

  down_low : l ≤ a → marks_down a n m l ≡ m l
  unfolding marks_down
  down_low h = rw (le-ltb a l h)

  down_high : a + n < l → marks_down a n m l ≡ m l
  unfolding marks_down
  down_high h = rw (lt-ltb a l (omega arith), lt-leb l (a + n) h)

  down_in : a + 1 < l → l ≤ a + n → marks_down a n m l ≡ m (l - 1)
  unfolding marks_down
  down_in h k = rw (lt-ltb a l (omega arith), le-leb l (a + n) k, lt-ltb (a + 1) l h)

  down_first : l ≡ a + 1 → 1 ≤ n → marks_down a n m l ≡ 0
  unfolding marks_down
  down_first h k = rw (lt-ltb a l (omega arith), le-leb l (a + n) (omega arith), le-ltb (a + 1) l (omega arith))

-- marks moved by one, and the one that this leaves cleared
module _ (x a n : ℕ) (some : 1 ≤ n) (most : a + n ≤ 48) where
  abbrev high : ℕ
  high = x / 2 ^ (a + n) * 2 ^ (a + n) % 2 ^ 64

  abbrev low : ℕ
  low = x % 2 ^ a

  abbrev up : ℕ
  up = x % 2 ^ (a + n) / 2 ^ (a + 1) * 2 ^ a % 2 ^ 64

  abbrev down : ℕ
  down = x % 2 ^ (a + n - 1) / 2 ^ a * 2 ^ (a + 1) % 2 ^ 64

  -- outside the region the marks are the others', in it these have none
  outside_low : (l : ℕ) → 1 ≤ l → l ≤ 64 → l ≤ a → mark_in (bit_or high low) l ≡ mark_in x l
  outside_low l p q h = right_alone high low l (moved_new x (a + n) (a + n) l p q (omega arith)) ∙ low_mark x a l p h

  outside_high : (l : ℕ) → 1 ≤ l → l ≤ 64 → a + n < l → mark_in (bit_or high low) l ≡ mark_in x l
  outside_high l p q h = left_alone high low l (low_none x a l (omega arith)) ∙ moved_mark x (a + n) (a + n) l l p q h p refl

  others_none : (l : ℕ) → 1 ≤ l → l ≤ 64 → a < l → l ≤ a + n → mark_in (bit_or high low) l ≡ 0
  others_none l p q h k = left_alone high low l (low_none x a l h) ∙ moved_new x (a + n) (a + n) l p q k

  up_lines : (l : ℕ) → 1 ≤ l → l ≤ 64 → mark_in (bit_or (bit_or high low) up) l ≡ marks_up a n (mark_in x) l
  up_lines l p q = go (leb l a) refl (ltb l (a + n)) refl (leb l (a + n)) refl
    where
      moved : (k : ℕ) → a < l → 1 ≤ k → k ≡ l + 1 → mark_in up l ≡ mark_in (x % 2 ^ (a + n)) k
      moved k h o e = moved_mark (x % 2 ^ (a + n)) (a + 1) a l k p q h o (omega arith)

      go : (r : Bool) → leb l a ≡ r → (s : Bool) → ltb l (a + n) ≡ s → (t : Bool) → leb l (a + n) ≡ t → mark_in (bit_or (bit_or high low) up) l ≡ marks_up a n (mark_in x) l
      go true r s u t v =
          let i : l ≤ a = leb-true l a r in
          left_alone (bit_or high low) up l (moved_new (x % 2 ^ (a + n)) (a + 1) a l p q i) ∙ outside_low l p q i ∙ sym (up_low a n (mark_in x) l i)
      go false r true u t v =
          let i : a < l = leb-false l a r in
          let k : l < a + n = ltb-true l (a + n) u in
          right_alone (bit_or high low) up l (others_none l p q i (omega arith)) ∙ moved (l + 1) i (omega arith) refl ∙ low_mark x (a + n) (l + 1) (omega arith) (omega arith) ∙ sym (up_in a n (mark_in x) l i k)
      go false r false u true v =
          let i : a < l = leb-false l a r in
          let k : a + n ≤ l = ltb-false l (a + n) u in
          let o : l ≤ a + n = leb-true l (a + n) v in
          right_alone (bit_or high low) up l (others_none l p q i o) ∙ moved (l + 1) i (omega arith) refl ∙ low_none x (a + n) (l + 1) (omega arith) ∙ sym (up_last a n (mark_in x) l i (omega arith))
      go false r false u false v =
          let i : a < l = leb-false l a r in
          let k : a + n < l = leb-false l (a + n) v in
          left_alone (bit_or high low) up l (moved (l + 1) i (omega arith) refl ∙ low_none x (a + n) (l + 1) (omega arith)) ∙ outside_high l p q k ∙ sym (up_high a n (mark_in x) l k)

  down_lines : (l : ℕ) → 1 ≤ l → l ≤ 64 → mark_in (bit_or (bit_or high low) down) l ≡ marks_down a n (mark_in x) l
  down_lines l p q = go (leb l a) refl (leb l (a + 1)) refl (leb l (a + n)) refl
    where
      moved : (k : ℕ) → a + 1 < l → 1 ≤ k → k + 1 ≡ l → mark_in down l ≡ mark_in (x % 2 ^ (a + n - 1)) k
      moved k h o e = moved_mark (x % 2 ^ (a + n - 1)) a (a + 1) l k p q h o (omega arith)

      go : (r : Bool) → leb l a ≡ r → (s : Bool) → leb l (a + 1) ≡ s → (t : Bool) → leb l (a + n) ≡ t → mark_in (bit_or (bit_or high low) down) l ≡ marks_down a n (mark_in x) l
      go true r s u t v =
          let i : l ≤ a = leb-true l a r in
          left_alone (bit_or high low) down l (moved_new (x % 2 ^ (a + n - 1)) a (a + 1) l p q (omega arith)) ∙ outside_low l p q i ∙ sym (down_low a n (mark_in x) l i)
      go false r true u t v =
          let i : a < l = leb-false l a r in
          let k : l ≤ a + 1 = leb-true l (a + 1) u in
          right_alone (bit_or high low) down l (others_none l p q i (omega arith)) ∙ moved_new (x % 2 ^ (a + n - 1)) a (a + 1) l p q k ∙ sym (down_first a n (mark_in x) l (omega arith) some)
      go false r false u true v =
          let i : a + 1 < l = leb-false l (a + 1) u in
          let o : l ≤ a + n = leb-true l (a + n) v in
          right_alone (bit_or high low) down l (others_none l p q (omega arith) o) ∙ moved (l - 1) i (omega arith) (omega arith) ∙ low_mark x (a + n - 1) (l - 1) (omega arith) (omega arith) ∙ sym (down_in a n (mark_in x) l i o)
      go false r false u false v =
          let i : a + 1 < l = leb-false l (a + 1) u in
          let k : a + n < l = leb-false l (a + n) v in
          left_alone (bit_or high low) down l (moved (l - 1) i (omega arith) (omega arith) ∙ low_none x (a + n - 1) (l - 1) (omega arith)) ∙ outside_high l p q k ∙ sym (down_high a n (mark_in x) l k)

joined_fit : (x a b z : ℕ) → a ≤ 48 → z < 2 ^ 64 → bit_or (bit_or (x / 2 ^ b * 2 ^ b % 2 ^ 64) (x % 2 ^ a)) z < 2 ^ 64
joined_fit x a b z h small = or_lt 64 (bit_or (x / 2 ^ b * 2 ^ b % 2 ^ 64) (x % 2 ^ a)) z (or_lt 64 (x / 2 ^ b * 2 ^ b % 2 ^ 64) (x % 2 ^ a) (mod-lt (x / 2 ^ b * 2 ^ b) (pow_pos 64)) (low_fits x a (omega arith))) small

module _ {k x v h o y z : ℕ} {ms : List ℕ} (a n : ℕ) (some : 1 ≤ n) (most : a + n ≤ 48) (e : x ≡ get_or ms k 0) (eh : h ≡ x / 2 ^ (a + n) * 2 ^ (a + n) % 2 ^ 64) (eo : o ≡ x % 2 ^ a) (j : v ≡ bit_or (bit_or h o) z) where
  pub up_made : y ≡ x % 2 ^ (a + n) → z ≡ y / 2 ^ (a + 1) * 2 ^ a % 2 ^ 64 → Remarks k (marks_up a n) ms (set ms k v)
  up_made ey ez =
      let w : v ≡ bit_or (bit_or (high x a n some most) (low x a n some most)) (up x a n some most) = j ∙ (λ i. bit_or (bit_or (eh i) (eo i)) ((ez ∙ ap (λ (u : ℕ). u / 2 ^ (a + 1) * 2 ^ a % 2 ^ 64) ey) i)) in
      record {
        number = v;
        stored = refl;
        fits = rw w (joined_fit x a (a + n) (up x a n some most) (omega arith) (mod-lt (x % 2 ^ (a + n) / 2 ^ (a + 1) * 2 ^ a) (pow_pos 64)));
        lines = λ l p q. ap (λ (u : ℕ). mark_in u l) w ∙ up_lines x a n some most l p q ∙ ap (λ (u : ℕ). marks_up a n (mark_in u) l) e;
      }

  pub down_made : y ≡ x % 2 ^ (a + n - 1) → z ≡ y / 2 ^ a * 2 ^ (a + 1) % 2 ^ 64 → Remarks k (marks_down a n) ms (set ms k v)
  down_made ey ez =
      let w : v ≡ bit_or (bit_or (high x a n some most) (low x a n some most)) (down x a n some most) = j ∙ (λ i. bit_or (bit_or (eh i) (eo i)) ((ez ∙ ap (λ (u : ℕ). u / 2 ^ a * 2 ^ (a + 1) % 2 ^ 64) ey) i)) in
      record {
        number = v;
        stored = refl;
        fits = rw w (joined_fit x a (a + n) (down x a n some most) (omega arith) (mod-lt (x % 2 ^ (a + n - 1) / 2 ^ a * 2 ^ (a + 1)) (pow_pos 64)));
        lines = λ l p q. ap (λ (u : ℕ). mark_in u l) w ∙ down_lines x a n some most l p q ∙ ap (λ (u : ℕ). marks_down a n (mark_in u) l) e;
      }

-- the number is then there
number_there : {k : ℕ} {ms ms' : List ℕ} {rule : (ℕ → ℕ) → ℕ → ℕ} → k < length ms → (w : Remarks k rule ms ms') → get_or ms' k 0 ≡ w.number
number_there {k} {ms} room w = ap (λ (xs : List ℕ). get_or xs k 0) w.stored ∙ get_or-set_same ms k w.number 0 room

pub remarks_length : {k : ℕ} {ms ms' : List ℕ} {rule : (ℕ → ℕ) → ℕ → ℕ} → Remarks k rule ms ms' → length ms' ≡ length ms
remarks_length {k} {ms} w = ap length w.stored ∙ length-set ms k w.number

-- one rule after another, the second of which looks at each mark alone
pub remarks_then : {k : ℕ} {ms ms₁ ms₂ : List ℕ} {one two : (ℕ → ℕ) → ℕ → ℕ} → k < length ms → Remarks k one ms ms₁ → Remarks k two ms₁ ms₂ → ((m m' : ℕ → ℕ) (l : ℕ) → m l ≡ m' l → two m l ≡ two m' l)
    → Remarks k (λ m. two (one m)) ms ms₂
remarks_then {k} {ms} {ms₁} room a b alone = record {
  number = b.number;
  stored = b.stored ∙ ap (λ (xs : List ℕ). set xs k b.number) a.stored ∙ set-set ms k a.number b.number;
  fits = b.fits;
  lines = λ l p q. b.lines l p q ∙ alone (mark_in (get_or ms₁ k 0)) _ l (ap (λ (n : ℕ). mark_in n l) (number_there room a) ∙ a.lines l p q);
}

-- no line 0
pub no_line : {k : ℕ} {ms : List ℕ} (line : ℕ) → line < 1 → get_or ms k 0 < 2 ^ 64 → Remarks k (unmarked_from line line) ms ms
unfolding unmarked_from
no_line {k} {ms} line h small = record {
  number = get_or ms k 0;
  stored = sym (set-get_or ms k 0);
  fits = small;
  lines = λ l p q. let o : line < l = omega arith in rw (lt-leb l line o, le-leb line l (omega arith));
}

-- three lines, one after the other, are those that end unmarked
pub ends_alone : (a n : ℕ) (m m' : ℕ → ℕ) (l : ℕ) → m l ≡ m' l → end_unmarked a n m l ≡ end_unmarked a n m' l
unfolding end_unmarked
ends_alone a n m m' l e = ap (λ (x : ℕ). cond (eqb l a || eqb l (a + n - 1) || eqb l (a + n)) 0 x) e

only : (line : ℕ) (m : ℕ → ℕ) (l : ℕ) → unmarked_from line line m l ≡ cond (eqb l line) 0 (m l)
unfolding unmarked_from
only line m l = ap (λ (b : Bool). cond b 0 (m l)) (go (leb line l) refl (leb l line) refl)
  where
    go : (x : Bool) → leb line l ≡ x → (y : Bool) → leb l line ≡ y → (leb line l && leb l line) ≡ eqb l line
    go false e y d = rw (e, ne_eqb l line (λ z. omega (arith, leb-false line l e)))
    go true e false d = rw (e, d, ne_eqb l line (λ z. omega (arith, leb-false l line d)))
    go true e true d = let z : l ≡ line = omega (arith, leb-true line l e, leb-true l line d) in rw (e, d, eq-eqb l line z)

of_three : (x y z : Bool) (n : ℕ) → cond x 0 (cond y 0 (cond z 0 n)) ≡ cond (x || y || z) 0 n
of_three true y z n = refl
of_three false true z n = refl
of_three false false z n = refl

pub ends_made : {k : ℕ} {ms ms₁ ms₂ ms₃ : List ℕ} (a n last : ℕ) → k < length ms → last ≡ a + n → Remarks k (unmarked_from last last) ms ms₁ → Remarks k (unmarked_from (last - 1) (last - 1)) ms₁ ms₂ → Remarks k (unmarked_from a a) ms₂ ms₃
    → Remarks k (end_unmarked a n) ms ms₃
unfolding end_unmarked
ends_made {k} {ms} {ms₁} a n last room e x y z =
    let both = remarks_then room x y (λ m m' l d. only (last - 1) m l ∙ ap (cond (eqb l (last - 1)) 0) d ∙ sym (only (last - 1) m' l)) in
    let all = remarks_then room both z (λ m m' l d. only a m l ∙ ap (cond (eqb l a) 0) d ∙ sym (only a m' l)) in
    record {
      number = all.number;
      stored = all.stored;
      fits = all.fits;
      lines = λ l p q.
          let m : ℕ → ℕ = mark_in (get_or ms k 0) in
          all.lines l p q ∙ only a _ l ∙ ap (λ (i : ℕ). cond (eqb l a) 0 i) (only (last - 1) _ l ∙ ap (λ (i : ℕ). cond (eqb l (last - 1)) 0 i) (only last m l))
          ∙ ap (λ (i : ℕ). cond (eqb l a) 0 (cond (eqb l (i - 1)) 0 (cond (eqb l i) 0 (m l)))) e ∙ of_three (eqb l a) (eqb l (a + n - 1)) (eqb l (a + n)) (m l);
    }

-- "the first unmarked line at or after": a line above the last that runs on is passed, any other is it
module _ (m : ℕ → ℕ) (lines l : ℕ) where
  end_step : l < lines → eqb (m l) 0 ≡ false → end_of m lines (l + 1) ≡ end_of m lines l
  unfolding end_of running
  end_step h e =
      let n : ℕ = lines - (l + 1) in
      let z : lines - l ≡ suc n = omega arith in
      let w : l + 1 ≡ suc l = omega arith in
      sym (ap (λ (k : ℕ). l + running m l k) z ∙ ap (λ (b : Bool). l + cond b 0 (suc (running m (suc l) n))) e ∙ omega (arith, ap (λ (k : ℕ). running m k n) w))

  end_last : lines ≤ l → end_of m lines l ≡ l
  unfolding end_of running
  end_last h = let z : lines - l ≡ 0 = omega arith in ap (λ (k : ℕ). l + running m l k) z ∙ add-zero l

  end_unmarked_lem : eqb (m l) 0 ≡ true → end_of m lines l ≡ l
  unfolding end_of running
  end_unmarked_lem e = go (lines - l)
    where
      go : (n : ℕ) → l + running m l n ≡ l
      go zero = add-zero l
      go (suc n) = ap (λ (b : Bool). l + cond b 0 (suc (running m (suc l) n))) e ∙ add-zero l

  pub passes : (ltb l lines && not (eqb (m l) 0)) ≡ true → (l < lines) × (end_of m lines (l + 1) ≡ end_of m lines l)
  passes = go (ltb l lines) refl (eqb (m l) 0) refl
    where
      go : (x : Bool) → ltb l lines ≡ x → (y : Bool) → eqb (m l) 0 ≡ y → (x && not y) ≡ true → (l < lines) × (end_of m lines (l + 1) ≡ end_of m lines l)
      go true e false d t = (ltb-true l lines e, end_step (ltb-true l lines e) d)
      go true e true d t = absurd (differ (sym t))
      go false e y d t = absurd (differ (sym t))

  pub ends : (ltb l lines && not (eqb (m l) 0)) ≡ false → end_of m lines l ≡ l
  ends = go (ltb l lines) refl (eqb (m l) 0) refl
    where
      go : (x : Bool) → ltb l lines ≡ x → (y : Bool) → eqb (m l) 0 ≡ y → (x && not y) ≡ false → end_of m lines l ≡ l
      go false e y d t = end_last (ltb-false l lines e)
      go true e true d t = end_unmarked_lem d
      go true e false d t = absurd (differ t)
