-- The tests of a line: unfinished by its length and first bytes, and zeros behind what waits.
use mathlib.Core.Path.{◌∙◌, ◌≡◌, ap, refl, sym}
use Prim.Native.Nat.{ℕ, zero, suc, ◌+◌, ◌-◌, ◌<◌, ◌≤◌}
use native.Mathlib.Omega.{arith}
use mathlib.Core.Bool.{Bool, true, false, cond, not, ◌&&◌, ◌||◌, and_assoc, and-true}
use mathlib.Core.List.{List, [], ◌∷◌}
use lib.ListN.{drop, get_or, length, length-drop, take}
use lib.Seq.{drop-nil, get_or-drop}
use lib.Dec.{eqb, leb, ltb}
use borrow.Author.Tests.{eq-eqb, eqb-true, le-ltb, leb-true, lt-ltb, ltb-false, ltb-true, ne_eqb}
use Rattle.model.specs.Sequences.{mode_row_of, row_of}
use Rattle.model.specs.Reading.{unfinished?}
use Rattle.model.specs.Line.{limit, line?, unfinished_by, zeros?}
use Rattle.model.proofs.Tests.{differ}
use Rattle.std.specs.List.{fold, list_all}
use Rattle.std.proofs.lemmas.List.Folds.{list_all_at}
use Rattle.model.proofs.LineLaws.{unfinished_held}
use Rattle.tables.specs.Lengths.{length_of}
use Rattle.decoding.proofs.Found.{mode_least}
use Rattle.decoding.proofs.Needed.{length_listed, length_none, theirs}
use Rattle.unfinished.specs.Whole.{counted_right}

module _ (h b c k : ℕ) where
  -- none; not led by ESC; ESC alone
  pub begun_none : h ≡ 0 → true ≡ unfinished_by h b c k
  unfolding unfinished_by
  begun_none e = rw (eq-eqb h 0 e)

  pub begun_other : (h ≡ 0 → ⊥) → (b ≡ 27 → ⊥) → false ≡ unfinished_by h b c k
  unfolding unfinished_by
  begun_other e f = rw (ne_eqb h 0 e, ne_eqb b 27 f)

  pub begun_alone : h ≡ 1 → b ≡ 27 → true ≡ unfinished_by h b c k
  unfolding unfinished_by
  begun_alone e f = rw (e, eq-eqb b 27 f)

  -- two or more: 208 needs three at least, a second byte that is not in the list no more than two
  pub begun_more : (h ≡ 0 → ⊥) → (h ≡ 1 → ⊥) → b ≡ 27 → (n : ℕ) → n ≡ length_of c k → ltb h n ≡ unfinished_by h b c k
  unfolding unfinished_by
  begun_more z o f n e = rw (ne_eqb h 0 z, ne_eqb h 1 o, eq-eqb b 27 f) (go n e)
    where
      many : 2 ≤ h
      many = omega (arith, z, o)

      mode : (t : Bool) → eqb h 2 ≡ t → ltb h (mode_row_of k).bytes ≡ cond t true (ltb h (mode_row_of k).bytes)
      mode true e = lt-ltb h (mode_row_of k).bytes (omega (arith, eqb-true h 2 e, mode_least k))
      mode false e = refl

      same : (n : ℕ) (t : Bool) → theirs c k t ≡ n → ltb h n ≡ cond t (cond (eqb h 2) true (ltb h (mode_row_of k).bytes)) (ltb h (row_of c).bytes)
      same n true e = ap (ltb h) (sym e) ∙ mode (eqb h 2) refl
      same n false e = ap (ltb h) (sym e)

      go : (n : ℕ) → n ≡ length_of c k → ltb h n ≡ cond (eqb c 208) (cond (eqb h 2) true (ltb h (mode_row_of k).bytes)) (ltb h (row_of c).bytes)
      go zero e = let u = length_none c k (sym e) in rw (u.0, u.1, le-ltb h 0 (omega arith), le-ltb h 2 many)
      go (suc n) e = same (suc n) (eqb c 208) (length_listed c k (λ y. omega (arith, e, y)) ∙ sym e)

-- the bytes behind what waits, one more of them looked at
pub zeros_step : (w : List ℕ) (i h : ℕ) → i < length w → zeros? (drop h (take (suc i) w)) ≡ (zeros? (drop h (take i w)) && (ltb i h || eqb (get_or w i 0) 0))
unfolding zeros?
zeros_step [] i h l = absurd (omega arith)
zeros_step (x ∷ w) zero zero l = and-true (eqb x 0)
zeros_step (x ∷ w) zero (suc h) l = ap zeros? (drop-nil {A = ℕ} h) ∙ sym (ap (λ (t : Bool). t || eqb x 0) (lt-ltb 0 (suc h) (omega arith)))
zeros_step (x ∷ w) (suc i) zero l =
    ap (λ (t : Bool). eqb x 0 && t) (zeros_step w i zero (omega arith)) ∙ sym (and_assoc (eqb x 0) (zeros? (take i w)) (ltb i 0 || eqb (get_or w i 0) 0))
    ∙ ap (λ (t : Bool). (eqb x 0 && zeros? (take i w)) && (t || eqb (get_or w i 0) 0)) (le-ltb i 0 (omega arith) ∙ sym (le-ltb (suc i) 0 (omega arith)))
zeros_step (x ∷ w) (suc i) (suc h) l =
    zeros_step w i h (omega arith) ∙ ap (λ (t : Bool). zeros? (drop h (take i w)) && (t || eqb (get_or w i 0) 0)) (go (ltb i h) refl)
  where
    go : (t : Bool) → ltb i h ≡ t → ltb i h ≡ ltb (suc i) (suc h)
    go true e = e ∙ sym (lt-ltb (suc i) (suc h) (omega (arith, ltb-true i h e)))
    go false e = e ∙ sym (le-ltb (suc i) (suc h) (omega (arith, ltb-false i h e)))

-- the whole test of a line, by its parts
pub line_by : (w : List ℕ) (h n : ℕ) → length w ≡ 12 → (unfinished_by h (get_or w 0 0) (get_or w 1 0) (get_or w 2 0) && counted_right h n && zeros? (drop h w)) ≡ line? w h n
unfolding line?
line_by w h n e = go (leb h 12) refl
  where
    shift : (u p q z : Bool) → (u && (true && p && q) && z) ≡ (u && (p && (q && z)))
    shift u p q z = simp and_assoc

    none : (u p q z : Bool) → (u && (false && p && q) && z) ≡ false
    none true p q z = refl
    none false p q z = refl

    go : (t : Bool) → leb h 12 ≡ t → (unfinished_by h (get_or w 0 0) (get_or w 1 0) (get_or w 2 0) && (t && leb h n && leb n limit) && zeros? (drop h w)) ≡ (t && (unfinished? (take h w) && (leb h n && (leb n limit && zeros? (drop h w)))))
    go true f =
        shift (unfinished_by h (get_or w 0 0) (get_or w 1 0) (get_or w 2 0)) (leb h n) (leb n limit) (zeros? (drop h w))
        ∙ ap (λ (t : Bool). t && (leb h n && (leb n limit && zeros? (drop h w)))) (sym (unfinished_held w h (omega arith) (omega (arith, leb-true h 12 f))))
    go false f = none (unfinished_by h (get_or w 0 0) (get_or w 1 0) (get_or w 2 0)) (leb h n) (leb n limit) (zeros? (drop h w))

-- the library's fold of a test that never stops early is the test of all
all_of : {A : Type 0} (p : A → Bool) (t : Bool) (xs : List A) → fold (λ b x. b && p x) t xs ≡ (t && list_all p xs)
all_of p t [] = sym (and-true t)
all_of p t (x ∷ xs) = all_of p (t && p x) xs ∙ and_assoc t (p x) (list_all p xs)

-- no byte from the twelfth last on is an ESC
pub none_late : (bs : List ℕ) → fold (λ none b. none && not (eqb b 27)) true (drop (length bs - 12) bs) ≡ true → (i : ℕ) → length bs ≤ i + 12 → i < length bs → get_or bs i 0 ≡ 27 → ⊥
none_late bs e i l u b =
    let late : ℕ = length bs - 12 in
    let at : get_or (drop late bs) (i - late) 0 ≡ 27 = get_or-drop late bs (i - late) 0 ∙ ap (λ (k : ℕ). get_or bs k 0) (omega arith) ∙ b in
    let found = list_all_at (λ b. not (eqb b 27)) (drop late bs) (i - late) 0 (omega (arith, length-drop late bs)) (ap not (eq-eqb _ 27 at)) in
    differ (sym e ∙ all_of (λ b. not (eqb b 27)) true (drop late bs) ∙ found)
