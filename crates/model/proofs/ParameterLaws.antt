-- P10, of sequences and items (specs/Parameters): by induction over the checks, by a test and an equation of every row of the tables of sequences, and
-- over the items that an answer counts.
use mathlib.Core.Path.{◌∙◌, ◌≡◌, ap, refl, subst, sym}
use mathlib.Core.Logic.{⊎_elim}
use Prim.Native.Nat.{ℕ, suc, ◌+◌, ◌-◌, ◌≤◌, ◌<◌}
use native.Mathlib.Nat.{eq-or-lt_of_le}
use native.Mathlib.Omega.{arith}
use mathlib.Core.Bool.{Bool, ◌&&◌, cond, false, true}
use mathlib.Core.List.{List, [], ◌∷◌, map}
use lib.ListN.{drop, get_or, length}
use lib.Dec.{eqb, leb, ltb}
use borrow.Author.Tests.{eq-eqb, eqb-true, leb-true, ne_eqb}
use Rattle.model.specs.declared.Answer.{Answer}
use Rattle.model.specs.declared.Limits.{Limits}
use Rattle.model.specs.declared.Item.{Item}
use Rattle.model.specs.declared.Item.TheVariants.{Control, Printed, Refused, Sequence}
use Rattle.model.specs.declared.Sequence.{Sequence as Seq}
use Rattle.model.specs.declared.Sequence.TheVariants.{Select}
use Rattle.model.specs.Bytes.{list_from}
use Rattle.model.specs.Checks.{Check, first_bad, free, in_ranges?, member, passes}
use Rattle.model.specs.Sequences.{Row, code_of, find, mode_row_of, mode_rows, refusal, row_of, rows}
use Rattle.model.specs.State.{State}
use Rattle.model.specs.Picture.{copy_size_of}
use Rattle.model.specs.Reading.{Read, decoded, ended, item_of, kind_of, unfinished?}
use Rattle.model.specs.Judging.{allowed, bad_of, fitting, judged, judged_ranges, legal?, limits_of, ranges}
use Rattle.model.specs.Items.{counted, counted_all, obeyed_by, read, reads_of}
use Rattle.model.specs.Kept.{is_refusal}
use Rattle.model.specs.Parameters.{FirstBad, FirstRefusal, Named, NamedItem, behind, here, none, sent_at, values_of}
use Rattle.model.proofs.Tests.{by_test, cond_at, differ, elim_at}
use Rattle.model.proofs.Gathering.{found}

-- all pass exactly if none is found
bad_none : (n : ℕ) (cs : List Check) → 1 ≤ n → in_ranges? cs ≡ eqb (first_bad n cs) 0
unfolding in_ranges? first_bad
bad_none n [] l = refl
bad_none n (c ∷ cs) l = by_test (λ b. (b && in_ranges? cs) ≡ eqb (cond b (first_bad (n + 1) cs) n) 0) (passes c) (bad_none (n + 1) cs (omega arith)) (sym (ne_eqb n 0 (λ e. omega arith)))

-- the one that is found
bad_first : (n : ℕ) (cs : List Check) → in_ranges? cs ≡ false → FirstBad n cs (first_bad n cs)
unfolding in_ranges? first_bad
bad_first n [] e = absurd (differ e)
bad_first n (c ∷ cs) e =
    cond_at (λ (p : ℕ). FirstBad n (c ∷ cs) p) (passes c) (first_bad (n + 1) cs) n
    (λ t. later t (bad_first (n + 1) cs (subst (λ (b : Bool). (b && in_ranges? cs) ≡ false) t e)))
    (λ t. record { low = omega arith; high = omega arith; fails = here n false refl t; others_pass = λ k p q. absurd (omega arith) })
  where
    here : (k : ℕ) (b : Bool) → n ≡ k → passes c ≡ b → passes (get_or (c ∷ cs) (k - n) free) ≡ b
    here k b s t = let e : 0 ≡ k - n = omega arith in subst (λ (i : ℕ). passes (get_or (c ∷ cs) i free) ≡ b) e t

    behind : (k : ℕ) (b : Bool) → n + 1 ≤ k → passes (get_or cs (k - (n + 1)) free) ≡ b → passes (get_or (c ∷ cs) (k - n) free) ≡ b
    behind k b l t = let e : suc (k - (n + 1)) ≡ k - n = omega arith in subst (λ (i : ℕ). passes (get_or (c ∷ cs) i free) ≡ b) e t

    later : passes c ≡ true → FirstBad (n + 1) cs (first_bad (n + 1) cs) → FirstBad n (c ∷ cs) (first_bad (n + 1) cs)
    later t h =
        record {
          low = omega (arith, h.low);
          high = omega (arith, h.high);
          fails = behind _ false h.low h.fails;
          others_pass = λ k a b. ⊎_elim (λ s. here k true s t) (λ s. behind k true (omega arith) (h.others_pass k (omega arith) b)) (eq-or-lt_of_le a);
        }

-- a refusal's number and parameter, as a test; a sequence and a byte pass it
abbrev named? : Item → Bool
named? (Printed c) = true
named? (Control c) = true
named? (Sequence q) = true
named? (Refused n p) = cond (eqb n 11) (leb 1 p) (eqb p 0)

true-named : (i : Item) → named? i ≡ true → NamedItem i
true-named (Printed c) h = tt
true-named (Control c) h = tt
true-named (Sequence q) h = tt
true-named (Refused n p) h =
    record {
      eleven = λ e. leb-true 1 p (subst (λ (b : Bool). cond b (leb 1 p) (eqb p 0) ≡ true) (eq-eqb n 11 e) h);
      another = λ e. eqb-true p 0 (subst (λ (b : Bool). cond b (leb 1 p) (eqb p 0) ≡ true) (ne_eqb n 11 e) h);
    }

item_named : (at : ℕ) (bs : List ℕ) → named? (item_of at bs) ≡ true
unfolding item_of ended decoded kind_of row_of mode_row_of
item_named at bs =
    let p : ℕ → ℕ = λ n. get_or bs (n + 1) 0 in
    let N : Item → Type 0 = λ i. named? i ≡ true in
    elim_at N (unfinished? bs) (ended bs) (decoded at bs)
    (λ e. elim_at N (eqb (get_or bs 1 0) 209) (Sequence (Select 0)) (Refused 12 0) (λ e. refl) (λ e. refl))
    (λ e. elim_at N (eqb (get_or bs 0 0) 27) ((kind_of bs).made p (at + 2)) _
    (λ e. elim_at (λ r. N (r.made p (at + 2))) (eqb (get_or bs 1 0) 208) (mode_row_of (get_or bs 2 0)) (row_of (get_or bs 1 0))
    (λ e. found (λ r. named? (r.made p (at + 2))) (refusal 0 3 11 1) mode_rows (get_or bs 2 0) refl refl)
    (λ e. found (λ r. named? (r.made p (at + 2))) (refusal 0 2 10 0) rows (get_or bs 1 0) refl refl))
    (λ e. elim_at N (ltb (get_or bs 0 0) 32) (Control (get_or bs 0 0)) (Printed (get_or bs 0 0)) (λ e. refl) (λ e. refl)))

-- a sequence is legal exactly if it has no bad parameter
pub legal_named : (q : Seq) (s : Limits) → legal? q s ≡ eqb (bad_of q s) 0
unfolding legal? bad_of
legal_named q s = bad_none 1 (judged_ranges q s) (omega arith)

-- one that is not is refused by 11, with its first bad parameter
pub refused_by_lem : (q : Seq) (s : Limits) (room : ℕ) → legal? q s ≡ false → judged (Sequence q) s room ≡ Refused 11 (bad_of q s)
unfolding allowed fitting
refused_by_lem q s room e = ap (λ (b : Bool). fitting s.mode (cond b (Sequence q) (Refused 11 (bad_of q s))) room) e

pub refused_first : (q : Seq) (s : Limits) → legal? q s ≡ false → FirstBad 1 (judged_ranges q s) (bad_of q s)
unfolding legal? bad_of
refused_first q s e = bad_first 1 (judged_ranges q s) e

judged-named : (i : Item) (s : Limits) (room : ℕ) → NamedItem i → NamedItem (judged i s room)
unfolding allowed fitting
judged-named (Printed c) s room h = tt
judged-named (Control c) s room h = tt
judged-named (Sequence q) s room h =
    cond_at (λ (i : Item). NamedItem (fitting s.mode i room)) (legal? q s) (Sequence q) (Refused 11 (bad_of q s))
    (λ e. cond_at NamedItem (eqb (code_of q) 80 && ltb room (copy_size_of s.mode)) (Refused 13 0) (Sequence q) (λ f. true-named (Refused 13 0) refl) (λ f. tt))
    (λ e. record { eleven = λ f. (refused_first q s e).low; another = λ f. absurd (f refl) })
judged-named (Refused n p) s room h = h

-- every item that is read
pub read_named : (at : ℕ) (bs : List ℕ) (s : Limits) (room : ℕ) → NamedItem (judged (item_of at bs) s room)
read_named at bs s room = judged-named (item_of at bs) s room (true-named (item_of at bs) (item_named at bs))

-- what is equal in every row of a table, all rows at once, is equal in the one that is found
found_equal : (f g : Row → List ℕ) (o : Row) (rs : List Row) (c : ℕ) → f o ≡ g o → map f rs ≡ map g rs → f (find o rs c) ≡ g (find o rs c)
unfolding find
found_equal f g o [] c p q = p
found_equal f g o (r ∷ rs) c p q =
    cond_at (λ (x : Row). f x ≡ g x) (eqb c r.code) r (find o rs c) (λ e. ap (λ (l : List (List ℕ)). get_or l 0 []) q) (λ e. found_equal f g o rs c p (ap (λ (l : List (List ℕ)). drop 1 l) q))

-- the checks of an item, and their values as its bytes are numbered
abbrev checks_of : Item → Limits → List Check
checks_of (Printed c) s = []
checks_of (Control c) s = []
checks_of (Sequence q) s = ranges q s
checks_of (Refused n p) s = []

abbrev sent_by : Item → (ℕ → ℕ) → ℕ → ℕ
sent_by (Printed c) p = p
sent_by (Control c) p = p
sent_by (Sequence q) p = sent_at (code_of q) p
sent_by (Refused n m) p = p

abbrev Numbered : (ℕ → ℕ) → Limits → Item → Type 0
Numbered p s i = values_of (sent_by i p) 1 (checks_of i s) ≡ list_from (sent_by i p) 1 (length (checks_of i s))

decoded_numbered : (at : ℕ) (bs : List ℕ) (s : Limits) → Numbered (λ n. get_or bs (n + 1) 0) s (decoded at bs)
unfolding decoded kind_of row_of mode_row_of member
decoded_numbered at bs s =
    let p : ℕ → ℕ = λ n. get_or bs (n + 1) 0 in
    let f : Row → List ℕ = λ r. values_of (sent_by (r.made p (at + 2)) p) 1 (checks_of (r.made p (at + 2)) s) in
    let g : Row → List ℕ = λ r. list_from (sent_by (r.made p (at + 2)) p) 1 (length (checks_of (r.made p (at + 2)) s)) in
    elim_at (Numbered p s) (eqb (get_or bs 0 0) 27) ((kind_of bs).made p (at + 2)) _
    (λ e. elim_at (λ r. Numbered p s (r.made p (at + 2))) (eqb (get_or bs 1 0) 208) (mode_row_of (get_or bs 2 0)) (row_of (get_or bs 1 0))
    (λ e. found_equal f g (refusal 0 3 11 1) mode_rows (get_or bs 2 0) refl refl)
    (λ e. found_equal f g (refusal 0 2 10 0) rows (get_or bs 1 0) refl refl))
    (λ e. elim_at (Numbered p s) (ltb (get_or bs 0 0) 32) (Control (get_or bs 0 0)) (Printed (get_or bs 0 0)) (λ e. refl) (λ e. refl))

-- of a sequence that is read
pub numbered : (at : ℕ) (bs : List ℕ) (q : Seq) (s : Limits) → decoded at bs ≡ Sequence q
    → let p : ℕ → ℕ = λ n. get_or bs (n + 1) 0 in values_of (sent_at (code_of q) p) 1 (ranges q s) ≡ list_from (sent_at (code_of q) p) 1 (length (ranges q s))
numbered at bs q s e = subst (Numbered (λ n. get_or bs (n + 1) 0) s) e (decoded_numbered at bs s)

-- counting hands on a number and its parameter together
counted_named : (i : Item) (at n : ℕ) (a : Answer) → NamedItem i → Named a.first a.parameter → Named (counted i at n a).first (counted i at n a).parameter
counted_named (Printed c) at n a h g = g
counted_named (Control c) at n a h g = g
counted_named (Sequence q) at n a h g = g
counted_named (Refused k p) at n a h g = go (eqb a.refused 0)
  where
    go : (b : Bool) → Named (cond b k a.first) (cond b p a.parameter)
    go true = h
    go false = g

pub all_named : (bss : List (List ℕ)) (at : ℕ) (st : State) (room : ℕ) (a : Answer) → Named a.first a.parameter
    → Named (counted_all (reads_of bss at st room) a).first (counted_all (reads_of bss at st room) a).parameter
unfolding counted_all reads_of
all_named [] at st room a g = g
all_named (bs ∷ bss) at st room a g =
    let r = read at bs (limits_of st.settings) room in
    all_named bss (at + length bs) (obeyed_by r st) (room - r.prints) (counted r.item at r.prints a)
    (counted_named r.item at r.prints a (read_named at bs (limits_of st.settings) room) g)

-- an answer with none
pub none_named : Named 0 0
none_named = record { eleven = λ e. absurd (omega arith); another = λ e. refl }

-- once an item is refused, what is first stays
kept_first : (i : Item) (at n : ℕ) (a : Answer) → eqb a.refused 0 ≡ false
    → let b = counted i at n a in (eqb b.refused 0 ≡ false) × (b.first ≡ a.first) × (b.parameter ≡ a.parameter) × (b.offset ≡ a.offset)
kept_first (Printed c) at n a e = (e, refl, refl, refl)
kept_first (Control c) at n a e = (e, refl, refl, refl)
kept_first (Sequence q) at n a e = (e, refl, refl, refl)
kept_first (Refused k p) at n a e = (ne_eqb (a.refused + 1) 0 (λ f. omega arith), rw e, rw e, rw e)

all_kept : (rs : List Read) (a : Answer) → eqb a.refused 0 ≡ false
    → let b = counted_all rs a in (b.first ≡ a.first) × (b.parameter ≡ a.parameter) × (b.offset ≡ a.offset)
unfolding counted_all
all_kept [] a e = (refl, refl, refl)
all_kept (r ∷ rs) a e =
    let b = counted r.item r.at r.prints a in
    let k = kept_first r.item r.at r.prints a e in
    let z = all_kept rs b k.0 in
    (z.0 ∙ k.1, z.1 ∙ k.2, z.2 ∙ k.3)

-- an answer with nothing refused yet
abbrev pub NoneYet : Answer → Type 0
NoneYet a = (a.refused ≡ 0) × (a.first ≡ 0) × (a.parameter ≡ 0) × (a.offset ≡ 0)

abbrev pub FirstIn : List Read → Answer → Type 0
FirstIn rs a = FirstRefusal rs a.first a.parameter a.offset

-- counting finds the first refusal
pub first_in_lem : (rs : List Read) (a : Answer) → NoneYet a → FirstIn rs (counted_all rs a)
unfolding counted_all
first_in_lem [] a h = rw (h.1, h.2, h.3) none
first_in_lem (r ∷ rs) a h = go r.item refl (first_in_lem rs)
  where
    go : (i : Item) → r.item ≡ i → ((b : Answer) → NoneYet b → FirstIn rs (counted_all rs b)) → FirstIn (r ∷ rs) (counted_all rs (counted i r.at r.prints a))
    go (Printed c) e rest = behind (ap is_refusal e) (rest _ h)
    go (Control c) e rest = behind (ap is_refusal e) (rest _ h)
    go (Sequence q) e rest = behind (ap is_refusal e) (rest _ h)
    go (Refused k p) e rest =
        let b = counted (Refused k p) r.at r.prints a in
        let z = all_kept rs b (ne_eqb b.refused 0 (λ f. omega arith)) in
        rw (z.0, z.1, z.2, h.0) (here e)

-- the byte after 27, 208
pub mode_byte : (at : ℕ) (bs : List ℕ) → get_or bs 0 0 ≡ 27 → get_or bs 1 0 ≡ 208 → 3 < get_or bs 2 0 → decoded at bs ≡ Refused 11 1
unfolding decoded kind_of mode_row_of find
mode_byte at bs e f l =
    let k = get_or bs 2 0 in
    let p : ℕ → ℕ = λ n. get_or bs (n + 1) 0 in
    let d : (n : ℕ) → n ≤ 3 → eqb k n ≡ false = λ n h. ne_eqb k n (λ z. omega arith) in
    elim_at (λ i. i ≡ Refused 11 1) (eqb (get_or bs 0 0) 27) ((kind_of bs).made p (at + 2)) _
    (λ t. elim_at (λ r. r.made p (at + 2) ≡ Refused 11 1) (eqb (get_or bs 1 0) 208) (mode_row_of k) (row_of (get_or bs 1 0))
    (λ t. rw (d 0 (omega arith), d 1 (omega arith), d 2 (omega arith), d 3 (omega arith))) (λ t. absurd (differ (sym (eq-eqb _ _ f) ∙ t))))
    (λ t. absurd (differ (sym (eq-eqb _ _ e) ∙ t)))
