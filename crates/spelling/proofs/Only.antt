-- P7: bytes that the reader makes a whole sequence of are that sequence's own: its table, read backwards. Row by row, with the parameters left
-- open, the bytes of what a row makes are ESC, the row's byte and the parameters; one equation between two lists.
use mathlib.Core.Path.{◌∙◌, ◌≡◌, ap, refl, subst, sym}
use Prim.Native.Nat.{ℕ, suc, zero, ◌+◌, ◌-◌, ◌≤◌}
use native.Mathlib.Omega.{arith}
use mathlib.Core.Bool.{Bool, cond, false, true}
use mathlib.Core.List.{List, [], ◌∷◌, map}
use lib.ListN.{drop, get_or, length}
use lib.Seq.{get_or-drop}
use lib.Dec.{eqb, ltb}
use borrow.Author.Tests.{eqb-true, le-ltb}
use Rattle.model.specs.declared.Sequence.{Sequence as Seq}
use Rattle.model.specs.declared.Item.{Item}
use Rattle.model.specs.declared.Item.TheVariants.{Printed, Control, Sequence, Refused}
use Rattle.model.specs.Bytes.{list_from}
use Rattle.model.specs.Sequences.{Row, find, mode_row_of, mode_rows, refusal, row_of, rows}
use Rattle.model.specs.Reading.{after_escape, after_mode, decoded, ended, item_of, kind_of, needed, unfinished?}
use Rattle.model.proofs.ByteLaws.{length_list_from}
use Rattle.model.proofs.Gathering.{escape_order}
use Rattle.model.proofs.Tests.{cond_at, differ, elim_at}
use Rattle.spelling.specs.Spelling.{bytes_of, params_of}

-- bytes that are whole are decoded
pub item_whole : (o : ℕ) (bs : List ℕ) → needed bs ≤ length bs → item_of o bs ≡ decoded o bs
unfolding item_of unfinished?
item_whole o bs h = elim_at (λ (i : Item). i ≡ decoded o bs) (unfinished? bs) (ended bs) (decoded o bs) (λ t. absurd (differ (sym t ∙ le-ltb (length bs) (needed bs) h))) (λ t. refl)

-- an item that is a sequence, and its bytes
sequence? : Item → Bool
sequence? (Printed c) = false
sequence? (Control c) = false
sequence? (Sequence q) = true
sequence? (Refused n k) = false

bytes_in : List ℕ → Item → List ℕ
bytes_in rs (Printed c) = []
bytes_in rs (Control c) = []
bytes_in rs (Sequence q) = bytes_of q rs
bytes_in rs (Refused n k) = []

-- what is found in a table, of which every row makes its bytes by its own byte
module _ (p : ℕ → ℕ) (o : ℕ) (rs : List ℕ) (g : ℕ → Row → List ℕ) where
  Own : ℕ → Row → Type 0
  Own c r = (q : Seq) → r.made p o ≡ Sequence q → bytes_of q rs ≡ g c r

  found_own : (other : Row) (table : List Row) (c : ℕ) → sequence? (other.made p o) ≡ false → map (λ (r : Row). bytes_in rs (r.made p o)) table ≡ map (λ (r : Row). g r.code r) table → Own c (find other table c)
  unfolding find Own bytes_in sequence?
  found_own other [] c n t = λ q e. absurd (differ (sym (ap sequence? e) ∙ n))
  found_own other (r ∷ table) c n t =
      cond_at (Own c) (eqb c r.code) r (find other table c)
      (λ k q e. ap (bytes_in rs) (sym e) ∙ ap (λ (l : List (List ℕ)). get_or l 0 []) t ∙ ap (λ (x : ℕ). g x r) (sym (eqb-true c r.code k)))
      (λ k. found_own other table c n (ap (λ (l : List (List ℕ)). drop 1 l) t))

-- the bytes of each row of the two tables
module _ (p : ℕ → ℕ) (o : ℕ) where
  abbrev rows_from : List ℕ
  rows_from = list_from p 2 8

  row_own : (c : ℕ) (q : Seq) → (row_of c).made p o ≡ Sequence q → bytes_of q rows_from ≡ 27 ∷ c ∷ list_from p 1 ((row_of c).bytes - 2)
  unfolding row_of bytes_in bytes_of params_of Own sequence?
  row_own c = found_own p o rows_from (λ x r. 27 ∷ x ∷ list_from p 1 (r.bytes - 2)) (refusal 0 2 10 0) rows c refl refl

  mode_own : (k : ℕ) (q : Seq) → (mode_row_of k).made p o ≡ Sequence q → bytes_of q rows_from ≡ 27 ∷ 208 ∷ k ∷ list_from p 2 ((mode_row_of k).bytes - 3)
  unfolding mode_row_of bytes_in bytes_of params_of Own sequence?
  mode_own k = found_own p o rows_from (λ x r. 27 ∷ 208 ∷ x ∷ list_from p 2 (r.bytes - 3)) (refusal 0 3 11 1) mode_rows k refl refl

-- a list by its places
all_of : (xs : List ℕ) (f : ℕ → ℕ) (k : ℕ) → ((i : ℕ) → f (k + i) ≡ get_or xs i 0) → (n : ℕ) → n ≡ length xs → list_from f k n ≡ xs
all_of [] f k h zero e = refl
all_of [] f k h (suc n) e = absurd (omega arith)
all_of (x ∷ xs) f k h zero e = absurd (omega arith)
all_of (x ∷ xs) f k h (suc n) e =
    let a : k + 0 ≡ k = omega arith in
    let b : (j : ℕ) → k + suc j ≡ suc k + j = λ j. omega arith in
    λ i. (ap f (sym a) ∙ h 0) i ∷ all_of xs f (suc k) (λ j. ap f (sym (b j)) ∙ h (suc j)) n (omega (arith, e)) i

pub eight : (xs : List ℕ) → length xs ≡ 8 → list_from (λ i. get_or xs i 0) 0 8 ≡ xs
eight xs e = all_of xs (λ i. get_or xs i 0) 0 (λ i. sym (get_or-drop 0 xs i 0)) 8 (sym e)

-- the parameters, behind a byte more
behind : (b : ℕ) (xs : List ℕ) → ◌≡◌ {A = ℕ → ℕ} (λ n. get_or (b ∷ xs) (n + 1) 0) (λ n. get_or xs n 0)
behind b xs = let e : (n : ℕ) → n + 1 ≡ suc n = λ n. omega arith in λ i n. get_or (b ∷ xs) (e n i) 0

-- some bytes, of which the reader makes this sequence if they are whole
abbrev Spelt : List ℕ → Seq → Type 0
Spelt bs q = (rs : List ℕ) × ((length rs ≡ 8) × (bs ≡ bytes_of q rs))

module _ (o : ℕ) (q : Seq) where
  -- by the second byte
  listed : (c : ℕ) (xs : List ℕ) → length (27 ∷ c ∷ xs) ≡ (row_of c).bytes → (row_of c).made (λ n. get_or (c ∷ xs) n 0) (o + 2) ≡ Sequence q → Spelt (27 ∷ c ∷ xs) q
  listed c xs e k =
      let p : ℕ → ℕ = λ n. get_or (c ∷ xs) n 0 in
      (list_from p 2 8, (length_list_from p 2 8, sym (row_own p (o + 2) c q k ∙ ap (λ (l : List ℕ). 27 ∷ c ∷ l) (all_of xs p 1 (λ i. sym (get_or-drop 1 (c ∷ xs) i 0)) ((row_of c).bytes - 2) (omega (arith, e))))))

  -- by the mode byte
  moded : (k : ℕ) (xs : List ℕ) → length (27 ∷ 208 ∷ k ∷ xs) ≡ (mode_row_of k).bytes → (mode_row_of k).made (λ n. get_or (208 ∷ k ∷ xs) n 0) (o + 2) ≡ Sequence q → Spelt (27 ∷ 208 ∷ k ∷ xs) q
  moded k xs e h =
      let p : ℕ → ℕ = λ n. get_or (208 ∷ k ∷ xs) n 0 in
      (list_from p 2 8, (length_list_from p 2 8, sym (mode_own p (o + 2) k q h ∙ ap (λ (l : List ℕ). 27 ∷ 208 ∷ k ∷ l) (all_of xs p 2 (λ i. sym (get_or-drop 2 (208 ∷ k ∷ xs) i 0)) ((mode_row_of k).bytes - 3) (omega (arith, e))))))

  -- behind an ESC
  escaped : (c : ℕ) (xs : List ℕ) (t : Bool) → eqb c 208 ≡ t → length (27 ∷ c ∷ xs) ≡ cond t (after_mode xs) (row_of c).bytes
      → (elim t as (λ t. Row) [ true ↦ mode_row_of (get_or xs 0 0) | false ↦ row_of c ]).made (λ n. get_or (c ∷ xs) n 0) (o + 2) ≡ Sequence q → Spelt (27 ∷ c ∷ xs) q
  unfolding after_mode
  escaped c [] true t e k = absurd (omega (arith, e))
  escaped c (x ∷ xs) true t e k =
      let d = eqb-true c 208 t in
      subst (λ (b : ℕ). Spelt (27 ∷ b ∷ x ∷ xs) q) (sym d) (moded x xs e (subst (λ (b : ℕ). (mode_row_of x).made (λ n. get_or (b ∷ x ∷ xs) n 0) (o + 2) ≡ Sequence q) d k))
  escaped c xs false t e k = listed c xs e k

  -- with an ESC or without
  first : (b : ℕ) (xs : List ℕ) (t : Bool) → eqb b 27 ≡ t → length (b ∷ xs) ≡ cond t (after_escape xs) 1
      → elim t [ true ↦ (kind_of (b ∷ xs)).made (λ n. get_or (b ∷ xs) (n + 1) 0) (o + 2) | false ↦ elim (ltb b 32) [ true ↦ Control b | false ↦ Printed b ] ] ≡ Sequence q → Spelt (b ∷ xs) q
  unfolding after_escape kind_of sequence?
  first b [] true t e k = absurd (omega (arith, e))
  first b (c ∷ xs) true t e k = subst (λ (x : ℕ). Spelt (x ∷ c ∷ xs) q) (sym (eqb-true b 27 t)) (escaped c xs (eqb c 208) refl (e ∙ escape_order c xs) (ap (λ (p : ℕ → ℕ). (kind_of (b ∷ c ∷ xs)).made p (o + 2)) (sym (behind b (c ∷ xs))) ∙ k))
  first b xs false t e k = absurd (differ (sym (ap sequence? k) ∙ elim_at (λ (i : Item). sequence? i ≡ false) (ltb b 32) (Control b) (Printed b) (λ t. refl) (λ t. refl)))

  whole : (bs : List ℕ) → length bs ≡ needed bs → decoded o bs ≡ Sequence q → Spelt bs q
  unfolding needed decoded
  whole [] e k = absurd (omega (arith, e))
  whole (b ∷ xs) e k = first b xs (eqb b 27) refl e k

pub only-spelt : (o : ℕ) (bs : List ℕ) (q : Seq) → length bs ≡ needed bs → item_of o bs ≡ Sequence q → Spelt bs q
only-spelt o bs q e k = whole o q bs e (sym (item_whole o bs (omega (arith, e))) ∙ k)
