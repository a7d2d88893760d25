-- Gathering bytes: it goes on where it stopped, takes every byte once, and a whole item is cut off at once.
use mathlib.Core.Path.{◌∙◌, ◌≡◌, ap, refl, subst, sym}
use Prim.Native.Nat.{◌<◌, ◌≤◌, suc, zero, ℕ}
use native.Mathlib.Omega.{arith}
use mathlib.Core.Bool.{Bool, ◌&&◌, cond, false, true}
use mathlib.Core.List.{List, [], ◌++◌, ◌∷◌, append_assoc, append-nil}
use lib.ListN.{drop, drop_of_length-le, length, length-append, take, take-append-drop}
use lib.Seq.{length-take-le, take_all}
use lib.Dec.{eqb, leb, ltb}
use borrow.Author.Tests.{eqb-true, le-ltb, leb-true, lt-ltb, ltb-false, ltb-true}
use Rattle.model.specs.Bytes.{joined}
use Rattle.model.specs.Sequences.{Row, find, in_list_order, mode_row_of, mode_rows, refusal, row_of, rows}
use Rattle.model.specs.Reading.{after_escape, after_mode, gathered, lastly, needed, remaining, uncut, unfinished?}
use Rattle.model.proofs.Tests.{and_left, and_right, by_test, cond_at, elim_at}

-- every byte belongs to one item, or waits
pub all_bytes_lem : (w xs : List ℕ) → joined (gathered w xs) ++ remaining w xs ≡ w ++ xs
unfolding gathered remaining joined
all_bytes_lem w [] = sym (append-nil w)
all_bytes_lem w (x ∷ xs) =
    let v : List ℕ = w ++ (x ∷ []) in
    by_test (λ b. joined (elim b [ true ↦ gathered v xs | false ↦ v ∷ gathered [] xs ]) ++ elim b as (λ b. List ℕ) [ true ↦ remaining v xs | false ↦ remaining [] xs ] ≡ w ++ (x ∷ xs))
    (unfinished? v) (all_bytes_lem v xs ∙ append_assoc w (x ∷ []) xs)
    (append_assoc v (joined (gathered [] xs)) (remaining [] xs) ∙ ap (λ (l : List ℕ). v ++ l) (all_bytes_lem [] xs) ∙ append_assoc w (x ∷ []) xs)

-- gathering goes on where it stopped: bytes may come in pieces
pub gathered_append : (w xs ys : List ℕ) → (gathered w (xs ++ ys) ≡ gathered w xs ++ gathered (remaining w xs) ys) × (remaining w (xs ++ ys) ≡ remaining (remaining w xs) ys)
unfolding gathered remaining
gathered_append w [] ys = (refl, refl)
gathered_append w (x ∷ xs) ys =
    let v : List ℕ = w ++ (x ∷ []) in
    by_test
    (λ b. (elim b as (λ b. List (List ℕ)) [ true ↦ gathered v (xs ++ ys) | false ↦ v ∷ gathered [] (xs ++ ys) ]
    ≡ elim b as (λ b. List (List ℕ)) [ true ↦ gathered v xs | false ↦ v ∷ gathered [] xs ] ++ gathered (elim b as (λ b. List ℕ) [ true ↦ remaining v xs | false ↦ remaining [] xs ]) ys)
    × (elim b as (λ b. List ℕ) [ true ↦ remaining v (xs ++ ys) | false ↦ remaining [] (xs ++ ys) ]
    ≡ remaining (elim b as (λ b. List ℕ) [ true ↦ remaining v xs | false ↦ remaining [] xs ]) ys))
    (unfinished? v) (gathered_append v xs ys)
    (ap (λ (l : List (List ℕ)). v ∷ l) (gathered_append [] xs ys).0, (gathered_append [] xs ys).1)

pub joined_last : (xss : List (List ℕ)) (w : List ℕ) → joined (xss ++ lastly w) ≡ joined xss ++ w
unfolding joined
joined_last [] [] = refl
joined_last [] (b ∷ bs) = append-nil (b ∷ bs)
joined_last (x ∷ xs) w = ap (λ (l : List ℕ). x ++ l) (joined_last xs w) ∙ sym (append_assoc x (joined xs) w)

-- the items' bytes, one behind the other, are the message
pub joined_uncut : (m : List ℕ) → joined (uncut m) ≡ m
joined_uncut m = joined_last (gathered [] m) (remaining [] m) ∙ all_bytes_lem [] m

-- a test that every row of a table passes, and what is found if the byte is in none
abbrev pub all_rows_lem : (Row → Bool) → List Row → Bool
all_rows_lem f [] = true
all_rows_lem f (r ∷ rs) = f r && all_rows_lem f rs

pub found : (f : Row → Bool) (o : Row) (rs : List Row) (c : ℕ) → f o ≡ true → all_rows_lem f rs ≡ true → f (find o rs c) ≡ true
unfolding find
found f o [] c p q = p
found f o (r ∷ rs) c p q = cond_at (λ (x : Row). f x ≡ true) (eqb c r.code) r (find o rs c) (λ e. and_left (f r) (all_rows_lem f rs) q) (λ e. found f o rs c p (and_right (f r) (all_rows_lem f rs) q))

-- every length of a table
found_length : (l h : ℕ) (o : Row) (rs : List Row) (c : ℕ) → let f : Row → Bool = λ r. leb l r.bytes && leb r.bytes h in f o ≡ true → all_rows_lem f rs ≡ true → (l ≤ (find o rs c).bytes) × ((find o rs c).bytes ≤ h)
found_length l h o rs c p q =
    let x = find o rs c in
    let t = found (λ r. leb l r.bytes && leb r.bytes h) o rs c p q in
    (leb-true _ _ (and_left (leb l x.bytes) (leb x.bytes h) t), leb-true _ _ (and_right (leb l x.bytes) (leb x.bytes h) t))

row-length : (c : ℕ) → (2 ≤ (row_of c).bytes) × ((row_of c).bytes ≤ 13)
unfolding row_of
row-length c = found_length 2 13 (refusal 0 2 10 0) rows c refl refl

mode_length : (c : ℕ) → (3 ≤ (mode_row_of c).bytes) × ((mode_row_of c).bytes ≤ 13)
unfolding mode_row_of
mode_length c = found_length 3 13 (refusal 0 3 11 1) mode_rows c refl refl

-- a length asked in the list's order is the same with 208 asked first, as the proofs go by cases: no row has 208
pub in_order : (c byMode none : ℕ) → in_list_order c byMode none ≡ cond (eqb c 208) byMode (find (refusal 0 none 10 0) rows c).bytes
unfolding find
in_order c byMode none = go (eqb c 208) refl
  where
    go : (t : Bool) → eqb c 208 ≡ t → (find (refusal 0 (cond t byMode none) 10 0) rows c).bytes ≡ cond t byMode (find (refusal 0 none 10 0) rows c).bytes
    go true e = ap (λ (x : ℕ). (find (refusal 0 byMode 10 0) rows x).bytes) (eqb-true c 208 e)
    go false e = refl

pub escape_order : (c : ℕ) (ys : List ℕ) → after_escape (c ∷ ys) ≡ cond (eqb c 208) (after_mode ys) (row_of c).bytes
unfolding after_escape row_of
escape_order c ys = in_order c (after_mode ys) 2

after_mode_lem : (ys : List ℕ) → (3 ≤ after_mode ys) × (after_mode ys ≤ 13)
unfolding after_mode
after_mode_lem [] = omega arith
after_mode_lem (k ∷ ys) = mode_length k

after_escape_lem : (ys : List ℕ) → (2 ≤ after_escape ys) × (after_escape ys ≤ 13)
unfolding after_escape
after_escape_lem [] = omega arith
after_escape_lem (c ∷ ys) =
    subst (λ (n : ℕ). (2 ≤ n) × (n ≤ 13)) (sym (escape_order c ys))
    (cond_at (λ (n : ℕ). (2 ≤ n) × (n ≤ 13)) (eqb c 208) (after_mode ys) (row_of c).bytes (λ e. omega (arith, after_mode_lem ys)) (λ e. row-length c))

pub needed-least : (bs : List ℕ) → 1 ≤ needed bs
unfolding needed
needed-least [] = omega arith
needed-least (b ∷ bs) = cond_at (λ (n : ℕ). 1 ≤ n) (eqb b 27) (after_escape bs) 1 (λ e. omega (arith, after_escape_lem bs)) (λ e. omega arith)

-- no sequence has more than 13 bytes
pub needed_most : (bs : List ℕ) → needed bs ≤ 13
unfolding needed
needed_most [] = omega arith
needed_most (b ∷ bs) = cond_at (λ (n : ℕ). n ≤ 13) (eqb b 27) (after_escape bs) 1 (λ e. (after_escape_lem bs).1) (λ e. omega arith)

-- so at most 12 wait
pub waiting_most : (bs : List ℕ) → unfinished? bs ≡ true → length bs ≤ 12
unfolding unfinished?
waiting_most bs e = omega (arith, ltb-true (length bs) (needed bs) e, needed_most bs)

-- unfinished bytes stay short of their need, whatever follows
pub needed_grows : (w ys : List ℕ) → length w < needed w → length w < needed (w ++ ys)
unfolding needed after_escape after_mode
needed_grows [] ys h = needed-least ys
needed_grows (b ∷ []) ys h = go (eqb b 27) h (after_escape_lem ys).0
  where
    go : (t : Bool) → 1 < cond t 2 1 → 2 ≤ after_escape ys → 1 < cond t (after_escape ys) 1
    go true h k = k
    go false h k = h
needed_grows (b ∷ c ∷ []) ys h =
    let short : ℕ → Type 0 = λ n. 2 < cond (eqb b 27) n 1 in
    subst short (sym (escape_order c ys)) (go (eqb b 27) (eqb c 208) (subst short (escape_order c []) h) (after_mode_lem ys).0)
  where
    go : (t u : Bool) → 2 < cond t (cond u 3 (row_of c).bytes) 1 → 3 ≤ after_mode ys → 2 < cond t (cond u (after_mode ys) (row_of c).bytes) 1
    go true true h k = k
    go true false h k = h
    go false u h k = absurd (omega arith)
needed_grows (b ∷ c ∷ k ∷ w) ys h = h

-- none are unfinished too
pub none_unfinished : unfinished? [] ≡ true
unfolding unfinished? needed
none_unfinished = refl

-- what waits in the end is unfinished, as what waited was
pub remaining_unfinished : (w xs : List ℕ) → unfinished? w ≡ true → unfinished? (remaining w xs) ≡ true
unfolding remaining
remaining_unfinished w [] e = e
remaining_unfinished w (x ∷ xs) e =
    elim_at (λ (l : List ℕ). unfinished? l ≡ true) (unfinished? (w ++ (x ∷ []))) (remaining (w ++ (x ∷ [])) xs) (remaining [] xs)
    (λ f. remaining_unfinished (w ++ (x ∷ [])) xs f) (λ f. remaining_unfinished [] xs none_unfinished)

-- more bytes change nothing once there are enough
pub needed-more : (xs ys : List ℕ) → needed xs ≤ length xs → needed (xs ++ ys) ≡ needed xs
unfolding needed after_escape after_mode
needed-more [] ys h = absurd (omega arith)
needed-more (b ∷ []) ys h = go (eqb b 27) h
  where
    go : (t : Bool) → cond t 2 1 ≤ 1 → cond t (after_escape ys) 1 ≡ cond t 2 1
    go true h = absurd (omega arith)
    go false h = refl
needed-more (b ∷ c ∷ []) ys h =
    ap (λ (n : ℕ). cond (eqb b 27) n 1) (escape_order c ys) ∙ go (eqb b 27) (eqb c 208) (subst (λ (n : ℕ). cond (eqb b 27) n 1 ≤ 2) (escape_order c []) h)
    ∙ sym (ap (λ (n : ℕ). cond (eqb b 27) n 1) (escape_order c []))
  where
    go : (t u : Bool) → cond t (cond u 3 (row_of c).bytes) 1 ≤ 2 → cond t (cond u (after_mode ys) (row_of c).bytes) 1 ≡ cond t (cond u 3 (row_of c).bytes) 1
    go true true h = absurd (omega arith)
    go true false h = refl
    go false u h = refl
needed-more (b ∷ c ∷ k ∷ xs) ys h = refl

-- a front of unfinished bytes is unfinished
pub unfinished_front : (xs ys : List ℕ) → length (xs ++ ys) < needed (xs ++ ys) → length xs < needed xs
unfinished_front xs ys h = go (ltb (length xs) (needed xs)) refl
  where
    go : (b : Bool) → ltb (length xs) (needed xs) ≡ b → length xs < needed xs
    go true e = ltb-true _ _ e
    go false e =
        let f : needed xs ≤ length xs = ltb-false _ _ e in
        absurd (omega (arith, length-append xs ys, f, needed-more xs ys f, h))

-- bytes that are unfinished with all that follow: nothing is gathered, all wait
pub gathered_none : (w xs : List ℕ) → length (w ++ xs) < needed (w ++ xs) → (gathered w xs ≡ []) × (remaining w xs ≡ w ++ xs)
unfolding gathered remaining unfinished?
gathered_none w [] h = (refl, sym (append-nil w))
gathered_none w (x ∷ xs) h =
    let v : List ℕ = w ++ (x ∷ []) in
    let a : v ++ xs ≡ w ++ (x ∷ xs) = append_assoc w (x ∷ []) xs in
    let h₂ : length (v ++ xs) < needed (v ++ xs) = subst (λ (l : List ℕ). length l < needed l) (sym a) h in
    let t : ltb (length v) (needed v) ≡ true = lt-ltb _ _ (unfinished_front v xs h₂) in
    let z = gathered_none v xs h₂ in (
      ap (λ (b : Bool). elim b as (λ b. List (List ℕ)) [ true ↦ gathered v xs | false ↦ v ∷ gathered [] xs ]) t ∙ z.0,
      ap (λ (b : Bool). elim b as (λ b. List ℕ) [ true ↦ remaining v xs | false ↦ remaining [] xs ]) t ∙ z.1 ∙ a,
    )

-- the own bytes of an item tell its length as well
needed_two : (b c : ℕ) (bs : List ℕ) (n : ℕ) → 2 ≤ n → eqb b 27 ≡ true → eqb c 208 ≡ false → needed (take n (b ∷ c ∷ bs)) ≡ (row_of c).bytes
unfolding needed
needed_two b c bs zero h e f = absurd (omega arith)
needed_two b c bs (suc zero) h e f = absurd (omega arith)
needed_two b c bs (suc (suc n)) h e f = rw (e, escape_order c (take n bs), f)

needed-three : (b c k : ℕ) (bs : List ℕ) (n : ℕ) → 3 ≤ n → eqb b 27 ≡ true → eqb c 208 ≡ true → needed (take n (b ∷ c ∷ k ∷ bs)) ≡ (mode_row_of k).bytes
unfolding needed after_mode
needed-three b c k bs zero h e f = absurd (omega arith)
needed-three b c k bs (suc zero) h e f = absurd (omega arith)
needed-three b c k bs (suc (suc zero)) h e f = absurd (omega arith)
needed-three b c k bs (suc (suc (suc n))) h e f = rw (e, escape_order c (k ∷ take n bs), f)

needed_mode : (b c : ℕ) (bs : List ℕ) → eqb b 27 ≡ true → eqb c 208 ≡ true → needed (take (after_mode bs) (b ∷ c ∷ bs)) ≡ after_mode bs
unfolding needed after_mode
needed_mode b c [] e f = rw (e, escape_order c [], f)
needed_mode b c (k ∷ bs) e f = needed-three b c k bs _ (mode_length k).0 e f

pub needed_own : (bs : List ℕ) → needed (take (needed bs) bs) ≡ needed bs
unfolding needed after_escape after_mode
needed_own [] = refl
needed_own (b ∷ []) = cond_at (λ (n : ℕ). needed (take n (b ∷ [])) ≡ n) (eqb b 27) 2 1 (λ e. rw e) (λ e. rw e)
needed_own (b ∷ c ∷ bs) =
    cond_at (λ (n : ℕ). needed (take n (b ∷ c ∷ bs)) ≡ n) (eqb b 27) (after_escape (c ∷ bs)) 1
    (λ e. subst (λ (n : ℕ). needed (take n (b ∷ c ∷ bs)) ≡ n) (sym (escape_order c bs))
    (cond_at (λ (n : ℕ). needed (take n (b ∷ c ∷ bs)) ≡ n) (eqb c 208) (after_mode bs) (row_of c).bytes (λ f. needed_mode b c bs e f) (λ f. needed_two b c bs _ (row-length c).0 e f))) (λ e. rw e)

-- an item is cut off at once, whatever follows
pub finished : (w : List ℕ) (y : ℕ) (ys rest : List ℕ) → length (w ++ (y ∷ ys)) ≡ needed (w ++ (y ∷ ys))
    → (gathered w ((y ∷ ys) ++ rest) ≡ (w ++ (y ∷ ys)) ∷ gathered [] rest) × (remaining w ((y ∷ ys) ++ rest) ≡ remaining [] rest)
unfolding gathered remaining unfinished?
finished w y [] rest h =
    let v : List ℕ = w ++ (y ∷ []) in
    let t : ltb (length v) (needed v) ≡ false = le-ltb (length v) (needed v) (omega (arith, h)) in (
      ap (λ (b : Bool). elim b as (λ b. List (List ℕ)) [ true ↦ gathered v rest | false ↦ v ∷ gathered [] rest ]) t,
      ap (λ (b : Bool). elim b as (λ b. List ℕ) [ true ↦ remaining v rest | false ↦ remaining [] rest ]) t,
    )
finished w y (x ∷ ys) rest h =
    let v : List ℕ = w ++ (y ∷ []) in
    let a : v ++ (x ∷ ys) ≡ w ++ (y ∷ x ∷ ys) = append_assoc w (y ∷ []) (x ∷ ys) in
    let h₂ : length (v ++ (x ∷ ys)) ≡ needed (v ++ (x ∷ ys)) = subst (λ (l : List ℕ). length l ≡ needed l) (sym a) h in
    let t : ltb (length v) (needed v) ≡ true = early v x ys h₂ (ltb (length v) (needed v)) refl in
    let z = finished v x ys rest h₂ in (
      ap (λ (b : Bool). elim b as (λ b. List (List ℕ)) [ true ↦ gathered v ((x ∷ ys) ++ rest) | false ↦ v ∷ gathered [] ((x ∷ ys) ++ rest) ]) t ∙ z.0 ∙ ap (λ (l : List ℕ). l ∷ gathered [] rest) a,
      ap (λ (b : Bool). elim b as (λ b. List ℕ) [ true ↦ remaining v ((x ∷ ys) ++ rest) | false ↦ remaining [] ((x ∷ ys) ++ rest) ]) t ∙ z.1,
    )
  where
    early : (v : List ℕ) (x : ℕ) (ys : List ℕ) → length (v ++ (x ∷ ys)) ≡ needed (v ++ (x ∷ ys)) → (b : Bool) → ltb (length v) (needed v) ≡ b → ltb (length v) (needed v) ≡ true
    early v x ys h true e = e
    early v x ys h false e =
        let f : needed v ≤ length v = ltb-false _ _ e in
        absurd (omega (arith, length-append v (x ∷ ys), f, needed-more v (x ∷ ys) f, h))

pub cut_off : (own rest : List ℕ) → length own ≡ needed own → (gathered [] (own ++ rest) ≡ own ∷ gathered [] rest) × (remaining [] (own ++ rest) ≡ remaining [] rest)
unfolding needed
cut_off [] rest h = absurd (omega arith)
cut_off (y ∷ ys) rest h = finished [] y ys rest h

-- no item is without bytes
pub data AllSome : List (List ℕ) → Type 0 where
  none : AllSome []
  some : {x : List ℕ} {xs : List (List ℕ)} → 1 ≤ length x → AllSome xs → AllSome (x ∷ xs)

some_append : {xs ys : List (List ℕ)} → AllSome xs → AllSome ys → AllSome (xs ++ ys)
some_append none q = q
some_append (some h p) q = some h (some_append p q)

pub some-gathered : (w bs : List ℕ) → AllSome (gathered w bs)
unfolding gathered
some-gathered w [] = none
some-gathered w (b ∷ bs) =
    elim_at AllSome (unfinished? (w ++ (b ∷ []))) (gathered (w ++ (b ∷ [])) bs) ((w ++ (b ∷ [])) ∷ gathered [] bs) (λ e. some-gathered (w ++ (b ∷ [])) bs)
    (λ e. some (simp length-append (omega arith)) (some-gathered [] bs))

pub some_last : (w : List ℕ) → AllSome (lastly w)
some_last [] = none
some_last (b ∷ bs) = some {x = b ∷ bs} (omega arith) none

pub some_uncut : (m : List ℕ) → AllSome (uncut m)
some_uncut m = some_append (some-gathered [] m) (some_last (remaining [] m))

-- one turn of a message's loop: what is left is the item's own bytes, then what is left after them
last_one : (bs : List ℕ) → 1 ≤ length bs → lastly bs ≡ bs ∷ []
last_one [] l = absurd (omega arith)
last_one (b ∷ bs) l = refl

pub uncut_next : (bs : List ℕ) → 1 ≤ length bs → uncut bs ≡ take (needed bs) bs ∷ uncut (drop (needed bs) bs)
unfolding gathered remaining
uncut_next bs l = go (ltb (length bs) (needed bs)) refl
  where
    go : (b : Bool) → ltb (length bs) (needed bs) ≡ b → uncut bs ≡ take (needed bs) bs ∷ uncut (drop (needed bs) bs)
    go true e =
        let z = gathered_none [] bs (ltb-true _ _ e) in
        let h : length bs ≤ needed bs = omega (arith, ltb-true (length bs) (needed bs) e) in
        ap (λ (l : List (List ℕ)). l ++ lastly (remaining [] bs)) z.0 ∙ ap lastly z.1 ∙ last_one bs l
        ∙ ap (λ (x : List ℕ). x ∷ uncut []) (sym (take_all (needed bs) bs h)) ∙ ap (λ (x : List ℕ). take (needed bs) bs ∷ uncut x) (sym (drop_of_length-le bs {i = needed bs} h))
    go false e =
        let own : List ℕ = take (needed bs) bs in
        let rest : List ℕ = drop (needed bs) bs in
        let n : length own ≡ needed own = length-take-le _ _ (ltb-false _ _ e) ∙ sym (needed_own bs) in
        let z = cut_off own rest n in
        ap uncut (sym (take-append-drop (needed bs) bs)) ∙ ap (λ (l : List (List ℕ)). l ++ lastly (remaining [] (own ++ rest))) z.0 ∙ ap (λ (l : List ℕ). own ∷ (gathered [] rest ++ lastly l)) z.1
